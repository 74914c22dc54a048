mod SoundRows

-- What is published: the version, and how many batches made it.
use Rattle.std.specs.Prelude.{◌+◌, List, fold}
use Rattle.liq_list_version.specs.Versions.{empty_version}
use Rattle.liq_views.specs.declared.shelf.Shelf.{Shelf}
use Rattle.liq_views.specs.Batches.{Given, with_batch}

abbrev pub opening : Shelf
opening = record { version = empty_version; count = 0 }

abbrev pub after : Shelf → Given → Shelf
after s b = record { version = with_batch s.version b; count = s.count + 1 }

abbrev pub after_all : List Given → Shelf
after_all batches = fold after opening batches

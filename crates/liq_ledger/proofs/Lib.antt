mod Exchanging

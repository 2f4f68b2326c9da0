-- Trusted: the command bytes of the serial bus (Programmer's Reference Guide, serial bus).
use Rattle.std.specs.Prelude.{ℕ}

-- LISTEN, plus a device number of 0 to 30: the device listens from now on
abbrev pub listen : ℕ
listen = 32

-- UNLISTEN: no device listens any more
abbrev pub unlisten : ℕ
unlisten = 63

-- a secondary address, plus its number of 0 to 15; 7 selects a VIC-1525's lower/upper case set (VIC-1525 User's Manual)
abbrev pub secondary : ℕ
secondary = 96

-- the secondary address that closes a channel, plus its number of 0 to 15
abbrev pub close : ℕ
close = 224

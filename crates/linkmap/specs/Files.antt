-- The tray file of LINKMAP.
use Rattle.std.specs.Prelude.{ℕ, cond, List, length, Some, Option, nat_le}
use Rattle.library.specs.declared.fault.LibraryFault.{LibraryFault}
use Rattle.library.specs.declared.fault.LibraryFault.TheVariants.{BadTrayLength}
use Rattle.library.specs.Faults.{tray_fault}

-- the first rule that a file breaks: at most 40,000 bytes, then the rules of a tray
abbrev pub file_fault : List ℕ → Option LibraryFault
file_fault bytes = cond (nat_le (length bytes) 40000) (tray_fault bytes) (Some BadTrayLength)

-- What is known of a failure, as a text for a person.
use Rattle.std.specs.Prelude.{ℕ, List, codes, Option, Some, None}
use Rattle.std_io.specs.declared.io.kind.ErrorKind.{ErrorKind}
use Rattle.std_io.specs.declared.io.kind.ErrorKind.TheVariants.{NotFound, PermissionDenied, ReadOnlyFilesystem, StorageFull, QuotaExceeded, FileTooLarge}

-- if a file can't be opened, written or renamed
abbrev pub file_text : ErrorKind → Option (List ℕ)
file_text NotFound = Some (codes "no such directory")
file_text PermissionDenied = Some (codes "permission denied")
file_text ReadOnlyFilesystem = Some (codes "file system is read-only")
file_text StorageFull = Some (codes "disk is full")
file_text QuotaExceeded = Some (codes "disk quota is used up")
file_text FileTooLarge = Some (codes "file would be too large")
file_text _ = None

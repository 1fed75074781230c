-- Families of replies that are copied alike.
use Rattle.std.specs.Prelude.{Bool, true, false}
use Rattle.xti_model.specs.declared.entry.Reply.{Reply}
use Rattle.xti_model.specs.declared.entry.Reply.TheVariants.{Plain, Opened, Sent, Seen, Stands, Limits, Refused, Look, Overflow}

-- the reply has no field of bytes
abbrev pub has_no_bytes : Reply → Bool
has_no_bytes Plain = true
has_no_bytes (Opened fd) = true
has_no_bytes (Sent n) = true
has_no_bytes (Seen event) = true
has_no_bytes (Stands state) = true
has_no_bytes (Limits info) = true
has_no_bytes (Refused errno) = true
has_no_bytes (Look event) = true
has_no_bytes (Overflow seq) = true
has_no_bytes other = false

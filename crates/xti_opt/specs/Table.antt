-- The words in which the table of negotiation is read line by line.
use Rattle.std.specs.Prelude.{◌≡◌, ◌≢◌, ℕ, List, [], ◌∷◌}
use Rattle.xti_base.specs.declared.limits.TheConstants.{MOST_SIZE}
use Rattle.xti_base.specs.declared.options.Opt.{Opt}
use Rattle.xti_base.specs.Options.{word_bytes}
use Rattle.xti_base.specs.Negotiation.{Settings, Negotiated, negotiate, t_check, t_negotiate, xti_generic, xti_sndbuf, xti_rcvbuf, xti_sndlowat, xti_rcvlowat, t_success, t_partsuccess, t_failure, t_readonly, t_notsupport}

pub data Side : Type 0 where
  sending : Side
  receiving : Side

abbrev pub buffer_name : Side → ℕ
buffer_name sending = xti_sndbuf
buffer_name receiving = xti_rcvbuf

abbrev pub mark_name : Side → ℕ
mark_name sending = xti_sndlowat
mark_name receiving = xti_rcvlowat

-- the size of the side's buffer, the size that the provider started it with, and the settings with another size
abbrev pub size : Side → Settings → ℕ
size sending s = s.sndbuf
size receiving s = s.rcvbuf

abbrev pub start_size : Side → Settings → ℕ
start_size sending s = s.start_sndbuf
start_size receiving s = s.start_rcvbuf

abbrev pub with_size : Side → ℕ → Settings → Settings
with_size sending n s = record s { sndbuf = n }
with_size receiving n s = record s { rcvbuf = n }

-- this size for each of the four
abbrev pub all_sizes : ℕ → Settings
all_sizes n = record { sndbuf = n; rcvbuf = n; start_sndbuf = n; start_rcvbuf = n }

-- an option of XTI_GENERIC with this name, status and value, and the options for a buffer and for a low-water mark
abbrev pub generic : ℕ → ℕ → List ℕ → Opt
generic name status value = record { level = xti_generic; name = name; status = status; value = value }

abbrev pub buffer : Side → ℕ → List ℕ → Opt
buffer side status value = generic (buffer_name side) status value

abbrev pub mark : Side → ℕ → List ℕ → Opt
mark side status value = generic (mark_name side) status value

-- one option answered: these settings, and the option with this result and value
abbrev pub answers : Settings → Opt → ℕ → List ℕ → Negotiated
answers s o result value = record { settings = s; options = record { level = o.level; name = o.name; status = result; value = value } ∷ []; result = result }

-- such an option is not supported
abbrev pub IsNotSupported : Settings → ℕ → Opt → Type 0
IsNotSupported s action o = negotiate s action (o ∷ []) ≡ answers s o t_notsupport []

-- a value that sets no size: the size that stays is told
abbrev pub SetsNothing : Settings → Side → ℕ → List ℕ → Type 0
SetsNothing s side status value =
    negotiate s t_negotiate (buffer side status value ∷ []) ≡ answers s (buffer side status value) t_failure (word_bytes (size side s))

-- a check of the option answers as a negotiation does, and sets nothing
abbrev pub ChecksAlone : Settings → Opt → Type 0
ChecksAlone s o = negotiate s t_check (o ∷ []) ≡ record (negotiate s t_negotiate (o ∷ [])) { settings = s }

-- the receive size 65,536, a part of what was asked, and the low-water mark 1, which is read only
abbrev pub worked_answer : List Opt
worked_answer = generic 4098 256 (word_bytes MOST_SIZE) ∷ generic 4099 512 (word_bytes 1) ∷ []

-- the name of none of the four options
pub record IsUnknownName (name : ℕ) : Type 0 where
  pub no_sndbuf : name ≢ xti_sndbuf
  pub no_rcvbuf : name ≢ xti_rcvbuf
  pub no_sndlowat : name ≢ xti_sndlowat
  pub no_rcvlowat : name ≢ xti_rcvlowat

-- the results of single options, from the best to the worst
abbrev pub results : List ℕ
results = t_success ∷ t_partsuccess ∷ t_failure ∷ t_readonly ∷ t_notsupport ∷ []

-- what an answer keeps of its option
pub record Place : Type 0 where
  pub level : ℕ
  pub name : ℕ

abbrev pub place_of : Opt → Place
place_of o = record { level = o.level; name = o.name }

-- The negotiation of options (XNS, t_optmgmt), by the numbers of this profile.
use Rattle.std.specs.Prelude.{ℕ, ◌==◌, ◌&&◌, ◌||◌, nat_lt, nat_le, Bool, true, List, [], ◌∷◌, ◌++◌, length, Option, Some, None, if◌then◌else◌}
use Rattle.std.specs.List.{list_all}
use Rattle.xti_base.specs.declared.options.Opt.{Opt}
use Rattle.xti_base.specs.declared.limits.TheConstants.{MOST_SIZE}
use Rattle.xti_base.specs.Options.{word, word_bytes}

-- the level and the names
abbrev pub xti_generic : ℕ
xti_generic = 65535

abbrev pub xti_sndbuf : ℕ
xti_sndbuf = 4097

abbrev pub xti_rcvbuf : ℕ
xti_rcvbuf = 4098

abbrev pub xti_sndlowat : ℕ
xti_sndlowat = 4099

abbrev pub xti_rcvlowat : ℕ
xti_rcvlowat = 4100

-- the actions
abbrev pub t_negotiate : ℕ
t_negotiate = 4

abbrev pub t_check : ℕ
t_check = 8

abbrev pub t_default : ℕ
t_default = 16

abbrev pub t_current : ℕ
t_current = 128

abbrev pub is_action : ℕ → Bool
is_action a = (a == t_negotiate) || (a == t_check) || (a == t_default) || (a == t_current)

-- the results
abbrev pub t_success : ℕ
t_success = 32

abbrev pub t_failure : ℕ
t_failure = 64

abbrev pub t_partsuccess : ℕ
t_partsuccess = 256

abbrev pub t_readonly : ℕ
t_readonly = 512

abbrev pub t_notsupport : ℕ
t_notsupport = 1024

-- the largest size of a buffer, and the value of every low-water mark
abbrev pub most_room : ℕ
most_room = MOST_SIZE

abbrev pub low_water_mark : ℕ
low_water_mark = 1

abbrev pub has_level : ℕ → Opt → Bool
has_level level o = o.level == level

abbrev pub is_one_level : List Opt → Bool
is_one_level [] = true
is_one_level (o ∷ os) = list_all (has_level o.level) os

-- the sizes of an endpoint's buffers, and those that its provider started it with
pub record Settings : Type 0 where
  pub sndbuf : ℕ
  pub rcvbuf : ℕ
  pub start_sndbuf : ℕ
  pub start_rcvbuf : ℕ

-- what an option is
pub data Meaning : Type 0 where
  send_size : Meaning
  receive_size : Meaning
  low_water : Meaning
  unknown : Meaning

abbrev pub generic_meaning : ℕ → Meaning
generic_meaning name =
    if name == xti_sndbuf then send_size else
    if name == xti_rcvbuf then receive_size else
    if (name == xti_sndlowat) || (name == xti_rcvlowat) then low_water else unknown

abbrev pub meaning : Opt → Meaning
meaning o = if o.level == xti_generic then generic_meaning o.name else unknown

-- how one option is answered: the result, the value, and the size that is set
pub record Answer : Type 0 where
  pub result : ℕ
  pub value : List ℕ
  pub sets : Option ℕ

abbrev pub answer : ℕ → List ℕ → Option ℕ → Answer
answer result value sets = record { result = result; value = value; sets = sets }

abbrev pub without_setting : Answer → Answer
without_setting a = record a { sets = None }

-- a check that gives no value asks whether the option is known
abbrev pub only_asks : ℕ → List ℕ → Bool
only_asks action value = (action == t_check) && (length value == 0)

abbrev pub sized : ℕ → ℕ → Answer
sized current n =
    if n == 0 then answer t_failure (word_bytes current) None else
    if nat_le n most_room then answer t_success (word_bytes n) (Some n) else answer t_partsuccess (word_bytes most_room) (Some most_room)

-- a buffer's size, which is one word
abbrev pub asked_size : ℕ → List ℕ → Answer
asked_size current value = if length value == 4 then sized current (word 0 value) else answer t_failure (word_bytes current) None

abbrev pub buffer_answer : ℕ → ℕ → ℕ → List ℕ → Answer
buffer_answer action current start value =
    if only_asks action value then answer t_success [] None else
    if action == t_negotiate then asked_size current value else
    if action == t_check then without_setting (asked_size current value) else
    if action == t_current then answer t_success (word_bytes current) None else answer t_success (word_bytes start) None

abbrev pub low_water_answer : ℕ → List ℕ → Answer
low_water_answer action value = if only_asks action value then answer t_readonly [] None else answer t_readonly (word_bytes low_water_mark) None

abbrev pub answer_meant : Settings → ℕ → List ℕ → Meaning → Answer
answer_meant s action value send_size = buffer_answer action s.sndbuf s.start_sndbuf value
answer_meant s action value receive_size = buffer_answer action s.rcvbuf s.start_rcvbuf value
answer_meant s action value low_water = low_water_answer action value
answer_meant s action value unknown = answer t_notsupport [] None

abbrev pub set_meant : Settings → Meaning → Option ℕ → Settings
set_meant s m None = s
set_meant s send_size (Some n) = record s { sndbuf = n }
set_meant s receive_size (Some n) = record s { rcvbuf = n }
set_meant s m (Some n) = s

-- an answered option: its result is its status
abbrev pub answered : Opt → Answer → Opt
answered o a = record { level = o.level; name = o.name; status = a.result; value = a.value }

-- the numbers of the results rise but for partial success, which is worse than success alone
abbrev pub badness : ℕ → ℕ
badness r = if r == t_success then 0 else if r == t_partsuccess then 1 else if r == t_failure then 2 else if r == t_readonly then 3 else 4

abbrev pub worse : ℕ → ℕ → ℕ
worse a b = if nat_lt (badness a) (badness b) then b else a

pub record Negotiated : Type 0 where
  pub settings : Settings
  pub options : List Opt
  pub result : ℕ

abbrev pub negotiate_one : Negotiated → Opt → Answer → Negotiated
negotiate_one n o a = record { settings = set_meant n.settings (meaning o) a.sets; options = n.options ++ answered o a ∷ []; result = worse n.result a.result }

-- in order
abbrev pub negotiate_from : Negotiated → ℕ → List Opt → Negotiated
negotiate_from n action [] = n
negotiate_from n action (o ∷ os) = negotiate_from (negotiate_one n o (answer_meant n.settings action o.value (meaning o))) action os

abbrev pub negotiate : Settings → ℕ → List Opt → Negotiated
negotiate s action os = negotiate_from (record { settings = s; options = []; result = t_success }) action os

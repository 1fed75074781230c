-- An end of a connection: what it sent and received in the steps of its life so far.
use Rattle.std.specs.Prelude.{ℕ, ◌&&◌, ◌||◌, not, Bool, false, List, [], ◌∷◌, ◌++◌, if◌then◌else◌}
use Rattle.xti_model.specs.Streams.{Made, Connection, is_made_by, is_over, sent_made, got_made}
use Rattle.xti_laws_streams.specs.Laws.{receives_release}

-- its descriptor, whether its life is over, what it sent and received of each kind, and whether it received the orderly release
pub record End : Type 0 where
  pub fd : ℕ
  pub is_over : Bool
  pub sent : Bool → List ℕ
  pub got : Bool → List ℕ
  pub got_release : Bool

-- an end that has made no step
abbrev pub new_end : ℕ → End
new_end fd = record { fd = fd; is_over = false; sent = λ k. []; got = λ k. []; got_release = false }

-- the end after a step of its own
abbrev pub with_step : Connection → End → Made → End
with_step c x m = record {
  fd = x.fd;
  is_over = is_over m.after;
  sent = λ k. x.sent k ++ sent_made c k m;
  got = λ k. x.got k ++ got_made c k m;
  got_release = x.got_release || receives_release m;
}

-- whether the step is one of its life
abbrev pub counts : End → Made → Bool
counts x m = not x.is_over && is_made_by x.fd m

-- the end after a step of anybody
abbrev pub after_step : Connection → End → Made → End
after_step c x m = if counts x m then with_step c x m else x

abbrev pub after_steps : Connection → End → List Made → End
after_steps c x [] = x
after_steps c x (m ∷ ms) = after_steps c (after_step c x m) ms

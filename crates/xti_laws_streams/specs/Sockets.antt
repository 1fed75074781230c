-- A socket at one end of a connection, and what it received there.
use Rattle.std.specs.Prelude.{ℕ, ◌+◌, ◌≡◌, ◌||◌, Bool, true, false, List, [], ◌∷◌, Some, take, drop, filter, if◌then◌else◌}
use Rattle.std.specs.List.{list_any, list_all}
use Rattle.xti_base.specs.declared.kinds.Fd.{Fd}
use Rattle.xti_model.specs.declared.entry.Entry.{Entry}
use Rattle.xti_model.specs.declared.profile.Providers.{Providers}
use Rattle.xti_model.specs.History.{is_own, own}
use Rattle.xti_model.specs.Streams.{Made, Connection, connection, made_from, is_made_by, is_over, got_made}
use Rattle.xti_laws_streams.specs.Laws.{OfHistoriesOfBytes, Prefix, end_of, got_at, sent_to, receives_release}
use Rattle.xti_sock.specs.Socks.{takes_release, was_released}
use Rattle.xti_sock.specs.Streams.{input}
use Rattle.xti_sock.specs.Streams as socket

-- the descriptor of the end
abbrev pub end_fd : Connection → Bool → Fd
end_fd c responds = record { 0 = end_of c responds }

-- ---- receives

abbrev pub are_some : List ℕ → Bool
are_some [] = false
are_some (b ∷ bytes) = true

-- a receive on the descriptor gave bytes of normal data
abbrev pub gives_bytes : Fd → Entry → Bool
gives_bytes fd e = are_some (socket.got_at fd e)

-- bytes, or the orderly release
abbrev pub receives : Fd → Entry → Bool
receives fd e = gives_bytes fd e || takes_release fd e

-- the step of a call did so
abbrev pub made_received : Connection → Made → Bool
made_received c m = are_some (got_made c false m) || receives_release m

-- ---- the end's life

-- the entries up to the accept, and with it
abbrev pub until_accept : List Entry → ℕ → List Entry
until_accept entries place = take (place + 1) entries

-- the steps after the first that leaves the connection
abbrev pub after_over : List Made → List Made
after_over [] = []
after_over (m ∷ ms) = if is_over m.after then ms else after_over ms

-- the steps of the descriptor's calls after the life of the end
abbrev pub afterwards : List Entry → ℕ → ℕ → List Made
afterwards entries place fd = after_over (filter (is_made_by fd) (made_from (until_accept entries place) (drop (place + 1) entries)))

-- ---- the end of a socket

-- One worker receives at this end of the connection that was accepted at the place.
-- `stream`: a byte stream has no ends of messages. `alone`: the bytes that receives on the descriptor gave are all that worker's.
-- `not_before`, `not_after`: neither bytes nor a release were received on the descriptor but in the life of the end.
pub record IsSocketsEnd (p : Providers) (entries : List Entry) (place : ℕ) (c : Connection) (responds : Bool) (number : ℕ) : Type 0 where
  pub connected : connection p entries place ≡ Some c
  pub stream : c.has_ends ≡ false
  pub alone : list_all (is_own number) (filter (gives_bytes (end_fd c responds)) entries) ≡ true
  pub not_before : list_any (receives (end_fd c responds)) (until_accept entries place) ≡ false
  pub not_after : list_any (made_received c) (afterwards entries place (end_of c responds)) ≡ false

-- this holds of each end of a connection at which one worker receives, in every legal history of bytes
abbrev pub OfSockets : (List Entry → ℕ → Connection → Bool → ℕ → Type 0) → Type 0
OfSockets law = OfHistoriesOfBytes
    (λ p entries. (place : ℕ) (c : Connection) (responds : Bool) (number : ℕ) → IsSocketsEnd p entries place c responds number → law entries place c responds number)

-- ---- the laws

-- the bytes of the worker's receives there, joined
abbrev pub input_at : List Entry → Connection → Bool → ℕ → List ℕ
input_at entries c responds number = input (end_fd c responds) (own entries number)

-- they are the normal data that the end got in its life
abbrev pub GetsItsStream : List Entry → ℕ → Connection → Bool → ℕ → Type 0
GetsItsStream entries place c responds number = input_at entries c responds number ≡ got_at entries place c responds false

-- they are a prefix of the normal data that the other end sent
abbrev pub GetsPrefix : List Entry → ℕ → Connection → Bool → ℕ → Type 0
GetsPrefix entries place c responds number = Prefix (input_at entries c responds number) (sent_to entries place c responds false)

-- they are all of it, where the worker received the orderly release
abbrev pub GetsAll : List Entry → ℕ → Connection → Bool → ℕ → Type 0
GetsAll entries place c responds number =
    was_released (end_fd c responds) (own entries number) ≡ true → input_at entries c responds number ≡ sent_to entries place c responds false

-- The laws of a copy: what may come next in its history, its one connection, and what went over it.
use Rattle.std.specs.Prelude.{ℕ, ◌≡◌, true, false, List, [], ◌∷◌, ◌++◌, Some}
use Rattle.xti_model.specs.declared.entry.Entry.{Entry}
use Rattle.xti_model.specs.History.{Legal}
use Rattle.xti_model.specs.Profile.{usual}
use Rattle.xti_model.specs.Streams.{Connection, connection}
use Rattle.xti_laws_streams.specs.Laws.{got_at, sent_to}
use Rattle.xti_laws_streams.specs.Copying.{client, receiver}

-- after the first entries, a legal entry that does what the next one does is that one
abbrev pub IsNextEntry : List Entry → Type 0
IsNextEntry entries =
    (front rest : List Entry) (e f : Entry) → entries ≡ front ++ f ∷ rest → Legal usual (front ++ e ∷ []) → e.worker ≡ f.worker → e.act ≡ f.act → e ≡ f

-- where the accept stands
abbrev pub accept_place : ℕ
accept_place = 7

-- the receiver accepted the client's request; byte streams have no ends of messages
abbrev pub the_connection : Connection
the_connection = record { responder = receiver.0; caller = client.0; has_ends = false }

-- that of the accept is the only connection
pub record HasOneConnection (entries : List Entry) : Type 0 where
  pub one : connection usual entries accept_place ≡ Some the_connection
  pub only : (place : ℕ) (c : Connection) → connection usual entries place ≡ Some c → place ≡ accept_place

-- the normal data that the client sent to the receiver
abbrev pub sent_by_client : List Entry → List ℕ
sent_by_client entries = sent_to entries accept_place the_connection true false

-- the normal data that the receiver received
abbrev pub got_by_receiver : List Entry → List ℕ
got_by_receiver entries = got_at entries accept_place the_connection true false

abbrev pub HasSentItsInput : List ℕ → List Entry → Type 0
HasSentItsInput input entries = sent_by_client entries ≡ input

abbrev pub HasGotItsInput : List ℕ → List Entry → Type 0
HasGotItsInput input entries = got_by_receiver entries ≡ input

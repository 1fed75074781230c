-- One end releases the connection, and the other takes that; then the other way round.
use Rattle.std.proofs.Common.{◌≡◌, ℕ, List, ◌++◌, take, drop, Result, true, false, ap, sym, subst, refl}
use Rattle.std.specs.Prelude.{if◌then◌else◌}
use Rattle.xti_base.specs.declared.kinds.State.TheVariants.{T_DATAXFER, T_IDLE, T_INREL, T_OUTREL}
use Rattle.xti_laws_streams.specs.declared.copies.TheConstants.{PIECE}
use Rattle.xti_laws_streams.specs.Copying.{client, ending, receiver}
use Rattle.xti_model.specs.declared.entry.Entry.{Entry}
use Rattle.xti_sock.specs.declared.fail.SockFail.{SockFail}
use Rattle.xti_sock.specs.declared.phase.Phase.TheVariants.{Open}
use Rattle.xti_sock.specs.declared.sock.Sock.{Sock}
use Rattle.xti_sock.specs.Rows.{recv, shutdown}
use Rattle.xti_sock.specs.Scripts.{Runs, done, received}
use Rattle.xti_sock.specs.Socks.{has_ended, in_phase}
use Rattle.xti_copy.specs.declared.connecting.Ends.{Ends}
use Rattle.xti_copy.specs.Ends.{AreInStep, HasReleased, MayRelease, client_sock, closing, connected, listening_sock, receiver_sock, released, releasing}
use Rattle.xti_copy.specs.Going.{Comes, IsAt}
use Rattle.xti_copy.specs.Rides.{Ride, sight_of}
use Rattle.xti_copy.proofs.InStep.{step-more, step-of}
use Rattle.xti_copy.proofs.Pieces.{comes-own}
use Rattle.xti_copy.proofs.Rows.{first-comes, then-comes}
use Rattle.xti_copy.proofs.Steps.{Done, Goes, Leads, at-both, end-goes, ends-are, shutdown-goes}

module _ (s k : Sock) (mine : List Entry) (may : MayRelease s k mine) where
  abbrev entries : List Entry
  entries = releasing (has_ended s.phase) s.fd k.fd

  pub released-goes : (r r' : Ride) (a : Result (Unit {0}) SockFail) (s' : Sock) → IsAt mine r → Runs (shutdown s) (sight_of r) (sight_of r') (done a) s' →
      Done a (mine ++ take 1 entries) r' s' (in_phase s (Open true (has_ended s.phase)))
  released-goes r r' a s' at m =
      shutdown-goes mine (drop 1 entries) s.fd (has_ended s.phase) (if has_ended s.phase then T_IDLE else T_OUTREL) s r r' a s' may.one may.comes at m

  pub taken-goes : (r r' : Ride) (a : Result (List ℕ) SockFail) (k' : Sock) → IsAt (mine ++ take 1 entries) r → Runs (recv k PIECE) (sight_of r) (sight_of r') (received a) k' →
      Goes (List ℕ) a (λ b. Leads ((mine ++ take 1 entries) ++ drop 1 entries) r' k' (in_phase k (Open (has_ended s.phase) true)))
  taken-goes r r' a k' at m =
      end-goes (mine ++ take 1 entries) k.fd (has_ended s.phase) PIECE (if has_ended s.phase then T_OUTREL else T_DATAXFER) (if has_ended s.phase then T_IDLE else T_INREL) k r r' a k'
      may.other (then-comes mine (take 1 entries) (drop 1 entries) may.comes) at m

-- ---- the two of them, one after the other

abbrev half : List Entry
half = releasing false client receiver

abbrev rest : List Entry
rest = releasing true receiver client

abbrev shut_client : Sock
shut_client = in_phase client_sock (Open true false)

abbrev ended_receiver : Sock
ended_receiver = in_phase receiver_sock (Open false true)

pub may-first : (e : Ends) (mine : List Entry) → e ≡ connected → AreInStep connected mine → Comes mine ending → MayRelease e.client e.receiver mine
may-first e mine q step comes =
    subst (λ (x : Ends). MayRelease x.client x.receiver mine) (sym q)
    (record { one = refl; other = refl; apart = refl; one_step = step.client; other_step = step.receiver; comes = first-comes mine half (rest ++ closing) comes })

module _ (e : Ends) (s k : Sock) (mine : List Entry) (r : Ride) (q : e ≡ connected) (has : HasReleased e.client e.receiver s k mine r) where
  pub at-half : HasReleased client_sock receiver_sock s k mine r
  at-half = subst (λ (x : Ends). HasReleased x.client x.receiver s k mine r) q has

  pub may-back : Comes mine ending → MayRelease k s r.entries
  may-back comes =
      let h = at-half in
      subst (λ (x : Sock). MayRelease x s r.entries) (sym h.other)
      (subst (λ (y : Sock). MayRelease ended_receiver y r.entries) (sym h.one)
      (record {
        one = refl;
        other = refl;
        apart = refl;
        one_step = step-of k ended_receiver r.entries h.other h.other_step;
        other_step = step-of s shut_client r.entries h.one h.one_step;
        comes = comes-own (mine ++ half) rest r h.at (first-comes (mine ++ half) rest closing (then-comes mine half (rest ++ closing) comes));
      }))

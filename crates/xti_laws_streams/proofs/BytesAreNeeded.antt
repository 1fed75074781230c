-- Without the premise on bytes no law holds: on a byte stream a number 256 that is sent is read as the end of a message, and lost.
use Rattle.std.proofs.Common.{ℕ, Bool, true, false, List, [], ◌∷◌, ◌++◌, ◌≡◌, refl, sym, ap, ◌∙◌, eqb, Some}
use Rattle.std.proofs.lemmas.Bool.{false≢true}
use Rattle.std.specs.Fmt.{digits}
use Rattle.xti_base.specs.Options.{begins_option, is_option_list, options_within}
use Rattle.xti_base.specs.declared.kinds.State.TheVariants.{T_DATAXFER, T_OUTREL, T_INREL}
use Rattle.xti_base.specs.declared.limit.Limit.TheVariants.{At}
use Rattle.xti_model.specs.declared.call.Call.TheVariants as call
use Rattle.xti_model.specs.declared.entry.Act.TheVariants as act
use Rattle.xti_model.specs.declared.entry.Entry.{Entry}
use Rattle.xti_model.specs.declared.entry.Outcome.TheVariants.{Done}
use Rattle.xti_model.specs.declared.entry.Reply.TheVariants.{Plain, Sent, Got}
use Rattle.xti_model.specs.declared.profile.Providers.{Providers}
use Rattle.xti_model.specs.declared.profile.Version.TheVariants.{One}
use Rattle.xti_model.specs.Step.{plan, step}
use Rattle.xti_model.specs.Endpoint.{Endpoint}
use Rattle.xti_model.specs.World.{opening, endpoint}
use Rattle.xti_model.specs.History.{after, Legal}
use Rattle.xti_model.specs.Streams.{Connection, connection}
use Rattle.xti_laws.proofs.LinkedHistory.{linked}
use Rattle.xti_laws_streams.specs.Laws.{Prefix, PrefixLaw, WaitingLaw, ReleaseLaw, got_at, sent_to, has_ended, received_release, is_unbroken}

providers : Providers
providers = record { version = One; ticots = record { tsdu = At 65536; sendzero = true; same_addr = false; sndbuf = 16384; rcvbuf = 16384; reldata = false }; ticotsord = record { tsdu = At 0; sendzero = false; same_addr = false; sndbuf = 16384; rcvbuf = 16384; reldata = false }; ticlts = record { tsdu = At 8192; sendzero = true; same_addr = false; sndbuf = 16384; rcvbuf = 16384; reldata = false } }

entries : List Entry
entries =
    linked ++
    record { worker = 0; act = act.Begin (call.TSnd (record { 0 = 1 }) (256 ∷ 1 ∷ []) 0); outcome = Done (Sent 2); after = T_DATAXFER } ∷
    record { worker = 0; act = act.Begin (call.TRcv (record { 0 = 2 }) 9); outcome = Done (Got [] 0); after = T_DATAXFER } ∷
    record { worker = 0; act = act.Begin (call.TRcv (record { 0 = 2 }) 9); outcome = Done (Got (1 ∷ []) 0); after = T_DATAXFER } ∷
    record { worker = 0; act = act.Begin (call.TSndRel (record { 0 = 1 })); outcome = Done Plain; after = T_OUTREL } ∷
    record { worker = 0; act = act.Begin (call.TRcvRel (record { 0 = 2 })); outcome = Done Plain; after = T_INREL } ∷
    []

is-legal : Legal providers entries
unfolding providers entries linked digits opening step plan is_option_list options_within begins_option
is-legal = ((refl, refl), ((refl, refl), ((refl, refl), ((refl, refl), ((refl, refl), ((refl, refl), ((refl, refl), ((refl, refl), ((refl, refl), ((refl, refl), ((refl, refl), ((refl, refl), ((refl, refl), ((refl, refl), tt))))))))))))))

between : Connection
between = record { responder = 2; caller = 1; has_ends = false }

is-between : connection providers entries 7 ≡ Some between
unfolding providers entries linked between digits opening step plan is_option_list options_within begins_option
is-between = refl

got-one : got_at entries 7 between true false ≡ 1 ∷ []
unfolding entries linked between
got-one = refl

sent-two : sent_to entries 7 between true false ≡ 256 ∷ 1 ∷ []
unfolding entries linked between
sent-two = refl

one-differs : (rest more : List ℕ) → (1 ∷ rest) ≡ (256 ∷ more) → ⊥
one-differs rest more h = false≢true (ap head h)
  where
    head : List ℕ → Bool
    head [] = false
    head (n ∷ l) = eqb n 256

pub prefix-needs : ((p : Providers) (entries : List Entry) → Legal p entries → PrefixLaw p entries) → ⊥
prefix-needs law =
    let h : Prefix (got_at entries 7 between true false) (sent_to entries 7 between true false) = law providers entries is-legal 7 between true false is-between in
    one-differs h.rest (1 ∷ []) (ap (λ l. l ++ h.rest) (sym got-one) ∙ (h.is_rest ∙ sent-two))

-- the responding endpoint, at which nothing waits
record Drained : Type 0 where
  e : Endpoint
  is_open : endpoint providers (after providers entries) 2 ≡ Some e
  unbroken : is_unbroken providers (after providers entries) 2 e ≡ true
  is_empty : e.normal ≡ []

drained : Drained
unfolding providers entries linked digits opening step plan is_option_list options_within begins_option
drained = record { e = _; is_open = refl; unbroken = refl; is_empty = refl }

has-not-ended : has_ended entries 7 2 ≡ false
unfolding entries linked
has-not-ended = refl

pub waiting-needs : ((p : Providers) (entries : List Entry) → Legal p entries → WaitingLaw p entries) → ⊥
unfolding between
waiting-needs law =
    let d = drained in
    one-differs [] (1 ∷ []) (ap (λ l. l ++ []) (sym got-one) ∙ (ap (λ l. got_at entries 7 between true false ++ l) (sym d.is_empty) ∙ (law providers entries is-legal 7 between true false d.e is-between has-not-ended d.is_open d.unbroken ∙ sent-two)))

was-released : received_release entries 7 2 ≡ true
unfolding entries linked
was-released = refl

pub release-needs : ((p : Providers) (entries : List Entry) → Legal p entries → ReleaseLaw p entries) → ⊥
unfolding between
release-needs law = one-differs [] (1 ∷ []) (sym got-one ∙ (law providers entries is-legal 7 between true false is-between was-released ∙ sent-two))

-- Of an entry of a legal history: what it gives to the socket is what its step got, and no receive is left unfinished.
use Rattle.std.proofs.Common.{ℕ, Bool, true, false, List, [], ◌∷◌, ◌++◌, ◌≡◌, refl, sym, ap, ap₂, ◌∙◌, subst, cond, eqb, not, ◌&&◌, Option, Some, None, IfSome, arith}
use Rattle.std.proofs.lemmas.Bool.{false≢true, eqb-true, eq-eqb}
use Rattle.xti_base.specs.declared.kinds.Fd.{Fd}
use Rattle.xti_model.specs.declared.call.Call.{Call}
use Rattle.xti_model.specs.declared.call.Call.TheVariants as call
use Rattle.xti_model.specs.declared.entry.Act.{Act}
use Rattle.xti_model.specs.declared.entry.Act.TheVariants as act
use Rattle.xti_model.specs.declared.entry.Go.{Go}
use Rattle.xti_model.specs.declared.entry.Outcome.{Outcome}
use Rattle.xti_model.specs.declared.entry.Outcome.TheVariants.{Done, Part}
use Rattle.xti_model.specs.declared.entry.Reply.TheVariants as reply
use Rattle.xti_model.specs.declared.entry.Entry.{Entry}
use Rattle.xti_model.specs.declared.profile.Providers.{Providers}
use Rattle.xti_model.specs.Symbols.{piece}
use Rattle.xti_model.specs.Arguments.{has_more, is_expedited}
use Rattle.xti_model.specs.Links.{names}
use Rattle.xti_model.specs.Touched.{fd_of}
use Rattle.xti_model.specs.World.{World}
use Rattle.xti_model.specs.Step.{Step, step}
use Rattle.xti_model.specs.History.{Going, is_own, going_after, unfinished, unfinished_from, made_by, doing}
use Rattle.xti_model.specs.Streams.{Connection, made_of, is_made_by, got_by, got_made}
use Rattle.xti_model.proofs.Outcomes.{IsPossible, Falls, step-falls}
use Rattle.xti_model.proofs.Working.{own-more}
use Rattle.xti_verbs.specs.declared.answer.Answer.{Answer}
use Rattle.xti_verbs.specs.declared.answer.Answer.TheVariants as answer
use Rattle.xti_verbs.specs.Verbs.{row_of, verb_of, answer_of, answer_to, MayAnswer}
use Rattle.xti_laws_streams.specs.Laws.{is_release_receipt}
use Rattle.xti_sock.specs.Socks.{is_release, is_plain, takes_release}
use Rattle.xti_sock.specs.Streams as socket
use Rattle.xti_laws_streams.proofs.OwnEntry.{after-own}

-- ---- the calls that receive

abbrev pub is_receive : Call → Bool
is_receive (call.TRcv fd max) = true
is_receive (call.TRcvV fd sizes) = true
is_receive other = false

abbrev is_got : Answer → Bool
is_got answer.Got = true
is_got other = false

-- no other call answers bytes of a connection
got-receive : (c : Call) → answer.Got ≡ answer_of (verb_of c) → is_receive c ≡ true
unfolding row_of
got-receive (call.TRcv fd max) h = refl
got-receive (call.TRcvV fd sizes) h = refl
got-receive other h = absurd (false≢true (sym (ap is_got h)))

some-is : {A : Type 0} (a b : A) → Some a ≡ Some b → a ≡ b
some-is a b h = cc

none-is : {A : Type 0} (b : A) → None ≡ Some b → ⊥
none-is b h = cc

-- ---- none is left unfinished

abbrev pub IsNoReceive : Option Going → Type 0
IsNoReceive None = Unit {0}
IsNoReceive (Some g) = is_receive g.call ≡ false

if-some : {A : Type 0} (P : A → Type 0) (o : Option A) (a : A) → IfSome o P → o ≡ Some a → P a
if-some P None a h i = absurd (none-is a i)
if-some P (Some b) a h i = subst P (some-is b a i) h

-- a step that made a part leaves fewer steps to make
falls : (p : Providers) (w : World) (c : Call) (g : Go) (s : Step) (n : ℕ) → IsPossible c g → step p w c g ≡ Some s → s.outcome ≡ Part n → Falls c g (Part n)
falls p w c g s n k h o = subst (Falls c g) o (if-some (λ s. Falls c g s.outcome) (step p w c g) s (step-falls p w c g k) h)

-- a receive makes one step
no-part : (p : Providers) (w : World) (c : Call) (g : Go) (s : Step) (n : ℕ) → step p w c g ≡ Some s → s.outcome ≡ Part n → is_receive c ≡ false
no-part p w (call.TRcv fd max) g s n h o = absurd (omega (arith, (falls p w (call.TRcv fd max) g s n tt h o).1))
no-part p w (call.TRcvV fd sizes) g s n h o = absurd (omega (arith, (falls p w (call.TRcvV fd sizes) g s n tt h o).1))
no-part p w other g s n h o = refl

after-no_receive : (g : Going) (o : Outcome) → ((n : ℕ) → o ≡ Part n → is_receive g.call ≡ false) → IsNoReceive (going_after (Some g.call) o)
after-no_receive g (Done r) h = tt
after-no_receive g (Part n) h = h n refl

-- so it is of every worker after an entry
pub next-no_receive : (p : Providers) (w : World) (past : List Entry) (e : Entry) (g : Going) (s : Step) → ((n : ℕ) → IsNoReceive (unfinished past n)) → doing past e ≡ Some g → step p w g.call g.so_far ≡ Some s → e.outcome ≡ s.outcome
    → (n : ℕ) → IsNoReceive (unfinished (past ++ e ∷ []) n)
next-no_receive p w past e g s r d h o n = go (is_own n e) refl
  where
    mine : is_own n e ≡ true → IsNoReceive (unfinished (past ++ e ∷ []) n)
    mine i = subst (λ z. IsNoReceive (unfinished (past ++ e ∷ []) z)) (eqb-true e.worker n i)
        (subst IsNoReceive (sym (after-own past e g d)) (after-no_receive g e.outcome (λ n k. no-part p w g.call g.so_far s n h (sym o ∙ k))))

    go : (d : Bool) → is_own n e ≡ d → IsNoReceive (unfinished (past ++ e ∷ []) n)
    go true i = mine i
    go false i = subst (λ es. IsNoReceive (unfinished_from None None es)) (sym (own-more past e n false i)) (r n)

-- ---- what an entry gives

same : (x y : ℕ) → eqb x y ≡ eqb y x
same x y = go (eqb x y) (eqb y x) refl refl
  where
    go : (a b : Bool) → eqb x y ≡ a → eqb y x ≡ b → a ≡ b
    go true true i j = refl
    go false false i j = refl
    go true false i j = absurd (false≢true (sym j ∙ eq-eqb y x (sym (eqb-true x y i))))
    go false true i j = absurd (false≢true (sym i ∙ eq-eqb x y (sym (eqb-true y x j))))

-- a byte stream has no ends of messages
whole : (bytes : List ℕ) (expedited more ends : Bool) → ends ≡ false → cond expedited [] bytes ≡ cond (not expedited) (piece bytes (not more && ends)) []
whole bytes true more ends h = refl
whole bytes false true ends h = refl
whole bytes false false ends h = ap (piece bytes) (sym h)

nothing : (b : Bool) (bytes : List ℕ) → bytes ≡ [] → [] ≡ cond b bytes []
nothing true bytes h = sym h
nothing false bytes h = refl

module _ (c : Connection) (fd : Fd) (stream : c.has_ends ≡ false) where
  got-same : (o : Outcome) → socket.got_in o ≡ got_by c false o
  got-same (Done (reply.Got bytes flags)) = whole bytes (is_expedited flags) (has_more flags) c.has_ends stream
  got-same other = refl

  got-none : (called : Call) (o : Outcome) → MayAnswer (verb_of called) (answer_to o) → is_receive called ≡ false → got_by c false o ≡ []
  got-none called (Done (reply.Got bytes flags)) m r = absurd (false≢true (sym r ∙ got-receive called m))
  got-none called other m r = refl

  -- what the step of a call got, where it is one of this descriptor
  abbrev step_got : Call → Outcome → List ℕ
  step_got called o = cond (names fd.0 (fd_of called)) (got_by c false o) []

  begin-got : (called : Call) (o : Outcome) → MayAnswer (verb_of called) (answer_to o) → socket.got_by fd (act.Begin called) o ≡ step_got called o
  begin-got (call.TRcv other max) o m = ap₂ (λ (b : Bool) (bytes : List ℕ). cond b bytes []) (same fd.0 other.0) (got-same o)
  begin-got (call.TRcvV other sizes) o m = ap₂ (λ (b : Bool) (bytes : List ℕ). cond b bytes []) (same fd.0 other.0) (got-same o)
  begin-got other o m = nothing (names fd.0 (fd_of other)) (got_by c false o) (got-none other o m refl)

  -- an entry gives what its step got
  pub entry-got : (past : List Entry) (e : Entry) (g : Going) → IsNoReceive (unfinished past e.worker) → doing past e ≡ Some g → MayAnswer (verb_of g.call) (answer_to e.outcome)
      → socket.got_at fd e ≡ cond (is_made_by fd.0 (made_of e g)) (got_made c false (made_of e g)) []
  entry-got past e g r d m = go (unfinished past e.worker) e.act r d
    where
      go : (u : Option Going) (a : Act) → IsNoReceive u → made_by u a ≡ Some g → socket.got_by fd a e.outcome ≡ step_got g.call e.outcome
      go None (act.Begin called) r h = subst (λ z. socket.got_by fd (act.Begin z) e.outcome ≡ step_got g.call e.outcome) (sym (ap (λ z. z.call) (some-is _ g h))) (begin-got g.call e.outcome m)
      go (Some u) (act.Begin called) r h = absurd (none-is g h)
      go None act.More r h = absurd (none-is g h)
      go (Some u) act.More r h = nothing (names fd.0 (fd_of g.call)) (got_by c false e.outcome) (got-none g.call e.outcome m (subst (λ z. is_receive z.call ≡ false) (some-is u g h) r))

-- ---- releases

pub both : (a b : Bool) → (a && b) ≡ true → (a ≡ true) × (b ≡ true)
both true b h = (refl, h)
both false b h = absurd (false≢true h)

plain-is : (o : Outcome) → is_plain o ≡ true → o ≡ Done reply.Plain
plain-is (Done reply.Plain) h = refl
plain-is other h = absurd (false≢true h)

-- the step is one of this descriptor, and receives the release
abbrev pub IsReceipt : Fd → Call → Outcome → Type 0
IsReceipt fd called o = (names fd.0 (fd_of called) ≡ true) × (is_release_receipt called o ≡ true)

begin-release : (fd : Fd) (called : Call) → is_release fd (act.Begin called) ≡ true → IsReceipt fd called (Done reply.Plain)
begin-release fd (call.TRcvRel other) h = (same other.0 fd.0 ∙ h, refl)
begin-release fd other h = absurd (false≢true h)

-- an entry that takes the release does so with its step
pub entry-release : (fd : Fd) (past : List Entry) (e : Entry) (g : Going) → doing past e ≡ Some g → takes_release fd e ≡ true → IsReceipt fd g.call e.outcome
entry-release fd past e g d t = let k = both (is_release fd e.act) (is_plain e.outcome) t in subst (IsReceipt fd g.call) (sym (plain-is e.outcome k.1)) (go (unfinished past e.worker) e.act d k.0)
  where
    go : (u : Option Going) (a : Act) → made_by u a ≡ Some g → is_release fd a ≡ true → IsReceipt fd g.call (Done reply.Plain)
    go None (act.Begin called) h k = subst (λ z. IsReceipt fd z.call (Done reply.Plain)) (some-is _ g h) (begin-release fd called k)
    go (Some u) (act.Begin called) h k = absurd (none-is g h)
    go u act.More h k = absurd (false≢true k)

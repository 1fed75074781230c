-- All steps of a call of a rider.
use Rattle.std.proofs.Common.{◌≡◌, ◌<◌, ℕ, true, false, List, [], ◌∷◌, ◌++◌, length, Option, Some, None, refl, sym, ap, ◌∙◌, subst, arith, append_assoc, length-append}
use Rattle.std.specs.Prelude.{is_none, IfSome}
use Rattle.std.proofs.lemmas.List.{append-nil, take_all}
use Rattle.xti_base.specs.declared.kinds.State.{State}
use Rattle.xti_model.specs.declared.call.Call.{Call}
use Rattle.xti_model.specs.declared.call.Call.TheVariants as call
use Rattle.xti_model.specs.declared.entry.Entry.{Entry}
use Rattle.xti_model.specs.declared.entry.Go.{Go}
use Rattle.xti_model.specs.declared.entry.Go.TheVariants as go
use Rattle.xti_model.specs.declared.entry.Outcome.{Outcome}
use Rattle.xti_model.specs.declared.entry.Outcome.TheVariants.{Done, Part}
use Rattle.xti_model.specs.declared.entry.Reply.{Reply}
use Rattle.xti_model.specs.declared.profile.Providers.{Providers}
use Rattle.xti_model.specs.History.{Going, going_after, unfinished_from, taken_before, after, Fits}
use Rattle.xti_model.specs.Robin.{act_of}
use Rattle.xti_model.specs.Step.{Step, step}
use Rattle.xti_model.specs.World.{World}
use Rattle.xti_model.proofs.Appending.{all-append}
use Rattle.xti_model.proofs.Outcomes.{left, IsPossible, Falls, step-falls}
use Rattle.xti_laws.specs.Progress.{Progress}
use Rattle.xti_laws.proofs.ProgressOfSteps.{progress}
use Rattle.xti_sock.specs.Sights.{IsStanding, Later}
use Rattle.xti_sock.specs.SightSteps.{IsMore, IsPart, AreSteps, AreParts, has_parts, Answered, Stopped, StoppedAtStall}
use Rattle.xti_copy.specs.Rides.{Ride, sight_of, IsAt, entry_of, Makes}
use Rattle.xti_copy.proofs.Riding.{after-step}

-- how far a call has come since the first ride, where this step is its next
pub record Goes (s : Ride) (c : Call) (g : Go) (t : Ride) : Type 0 where
  pub providers : t.providers ≡ s.providers
  pub parts : List Entry
  pub are_parts : AreParts c parts
  pub steps : AreSteps c go.Begin parts
  pub entries : t.entries ≡ s.entries ++ parts
  pub begun : g ≡ go.Begin → parts ≡ []
  pub unmoved : parts ≡ [] → g ≡ go.Begin
  pub is_at : IsAt t c g
  pub possible : IsPossible c g

none-unfinished : (o : Option Going) → true ≡ is_none o → o ≡ None
none-unfinished None e = refl
none-unfinished (Some g) e = cc

possible-first : (c : Call) → IsPossible c go.Begin
possible-first (call.TSnd fd bytes flags) = tt
possible-first (call.TSndV fd parts flags) = tt
possible-first other = tt

pub goes-first : (s : Ride) (c : Call) → IsStanding (sight_of s) → s.free ≡ true → Goes s c go.Begin s
goes-first s c k free = record {
  providers = refl;
  parts = [];
  are_parts = record { each = tt; none = λ e. refl };
  steps = tt;
  entries = sym (append-nil s.entries);
  begun = λ e. refl;
  unmoved = λ e. refl;
  is_at = none-unfinished (unfinished_from None None s.entries) (sym free ∙ k.free);
  possible = possible-first c;
}

-- a part that falls, and of a call that has parts
falls : (p : Providers) (w : World) (c : Call) (g : Go) (e : Entry) → IsPossible c g → Fits (step p w c g) e → Falls c g e.outcome × Progress c g e.outcome
falls p w c g e possible f = by (step p w c g) refl f
  where
    by : (o : Option Step) → step p w c g ≡ o → Fits o e → Falls c g e.outcome × Progress c g e.outcome
    by None i f = absurd f
    by (Some s) i f = (
      subst (Falls c g) (sym f.0) (subst (λ z. IfSome z (λ (x : Step). Falls c g x.outcome)) i (step-falls p w c g possible)),
      subst (Progress c g) (sym f.0) (progress p w c g s i),
    )

whole : (c : Call) (g : Go) (n : ℕ) → has_parts c ≡ false → Progress c g (Part n) → ⊥
whole (call.TConnect fd addr opt udata amax omax umax) g n e k = absurd (cc)
whole (call.TSnd fd bytes flags) g n e k = absurd (cc)
whole (call.TSndV fd parts flags) g n e k = absurd (cc)
whole other g n e k = k

steps-more : (c : Call) (g : Go) (parts : List Entry) (e : Entry) → AreSteps c go.Begin parts → (g ≡ go.Begin → parts ≡ []) → (parts ≡ [] → g ≡ go.Begin) → e.act ≡ act_of g c → AreSteps c go.Begin (parts ++ e ∷ [])
steps-more c g [] e s f b a = (a ∙ ap (λ x. act_of x c) (b refl), tt)
steps-more c go.Begin (x ∷ parts) e s f b a = absurd (let n = f refl in cc)
steps-more c (go.More n) (x ∷ parts) e s f b a = (s.0, all-append IsMore parts (e ∷ []) s.1 (a, tt))

not-empty : (xs : List Entry) (x : Entry) → xs ++ x ∷ [] ≡ [] → ⊥
not-empty [] x e = cc
not-empty (y ∷ xs) x e = cc

module _ {s : Ride} {c : Call} {g : Go} {t : Ride} (k : Goes s c g t) where
  pub goes-later : {u : Ride} → u.providers ≡ t.providers → (more : List Entry) → u.entries ≡ t.entries ++ more → Later (sight_of s) (sight_of u)
  goes-later {u} same more e = record {
    providers = same ∙ k.providers;
    number = refl;
    seen = (k.parts ++ more, sym (append_assoc s.entries k.parts more) ∙ sym (e ∙ ap (λ z. z ++ more) k.entries));
  }

  pub goes-still : Later (sight_of s) (sight_of t)
  goes-still = record { providers = k.providers; number = refl; seen = (k.parts, sym k.entries) }

  pub goes-stopped : (n : ℕ) → n ≡ taken_before g → Stopped c (sight_of s) (sight_of t) n
  goes-stopped n e = record { parts = k.parts; are_parts = k.are_parts; steps = k.steps; mine = k.entries; so_far = g; unmoved = k.unmoved; taken_is = e; is_at = k.is_at }

  pub goes-stalled : (n at : ℕ) → n ≡ taken_before g → at ≡ length t.entries → step t.providers (after t.providers t.entries) c g ≡ None → StoppedAtStall c (sight_of s) (sight_of t) n at
  unfolding goes-stopped
  goes-stalled n at e here blocked = record {
    stopped = goes-stopped n e;
    later = let all = ap length k.entries in let two = length-append s.entries k.parts in omega (arith, here, all, two);
    within = omega (arith, here);
    blocked = rw (take_all at t.entries (omega (arith, here))) blocked;
  }

  module _ {o : Outcome} {state : State} {u : Ride} (m : Makes t c g (entry_of c g o state) u) where
    abbrev x : Entry
    x = entry_of c g o state

    entries' : u.entries ≡ t.entries ++ x ∷ []
    entries' = ap (λ (z : Ride). z.entries) m.is

    mine' : u.entries ≡ s.entries ++ (k.parts ++ x ∷ [])
    mine' = entries' ∙ (ap (λ z. z ++ x ∷ []) k.entries ∙ append_assoc s.entries k.parts (x ∷ []))

    steps' : AreSteps c go.Begin (k.parts ++ x ∷ [])
    steps' = steps-more c g k.parts x k.steps k.begun k.unmoved refl

    pub goes-made : Later (sight_of s) (sight_of u)
    goes-made = goes-later (ap (λ (z : Ride). z.providers) m.is) (x ∷ []) entries'

    pub goes-done : (reply : Reply) → o ≡ Done reply → Answered c (sight_of s) (sight_of u) reply
    goes-done reply e = record {
      parts = k.parts;
      last = x;
      are_parts = k.are_parts;
      steps = steps';
      mine = mine';
      outcome = e;
      before = t.entries;
      ends = entries';
    }

    pub goes-part : (n : ℕ) → o ≡ Part n → Goes s c (go.More n) u × (left c (go.More n) < left c g)
    goes-part n e =
        let f = falls t.providers (after t.providers t.entries) c g x k.possible m.fits in
        let part : Falls c g (Part n) = subst (Falls c g) e f.0 in (
          record {
            providers = ap (λ (z : Ride). z.providers) m.is ∙ k.providers;
            parts = k.parts ++ x ∷ [];
            are_parts = record {
              each = all-append IsPart k.parts (x ∷ []) k.are_parts.each ((n, e), tt);
              none = λ h. absurd (whole c g n h (subst (Progress c g) e f.1));
            };
            steps = steps';
            entries = mine';
            begun = λ i. cc;
            unmoved = λ i. absurd (not-empty k.parts x i);
            is_at = ap (unfinished_from None None) entries' ∙ (after-step t.entries c g o state k.is_at ∙ ap (going_after (Some c)) e);
            possible = part.0;
          },
          part.1,
        )

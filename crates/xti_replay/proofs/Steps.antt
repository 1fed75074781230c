-- A worker's next call, and its step.
use Rattle.std.proofs.Common.{◌≡◌, ◌≢◌, ℕ, ◌<◌, ◌⊎◌, inl, inr, Bool, true, false, eqb, List, [], ◌∷◌, ◌++◌, length, get_or, set, Option, Some, None, refl, sym, ap, ◌∙◌, subst, arith}
use Rattle.std.specs.Prelude.{is_none, unwrap_or, option_map, option_and_then, slice_get}
use Rattle.std.proofs.lemmas.Bool.Decides.{eqb_tells}
use Rattle.std.proofs.lemmas.List.{length-set, get_or-set_same, set-get_or, set-set}
use Rattle.std.proofs.lemmas.Option.{none-some, slice_get_within, get_or_from_slice_get}
use Rattle.xti_base.specs.declared.kinds.State.{State}
use Rattle.xti_model.specs.declared.call.Call.{Call}
use Rattle.xti_model.specs.declared.entry.Act.{Act}
use Rattle.xti_model.specs.declared.entry.Act.TheVariants as act
use Rattle.xti_model.specs.declared.entry.Go.{Go}
use Rattle.xti_model.specs.declared.entry.Go.TheVariants as go
use Rattle.xti_model.specs.declared.entry.Outcome.{Outcome}
use Rattle.xti_model.specs.declared.entry.Entry.{Entry}
use Rattle.xti_model.specs.declared.script.Line.{Line}
use Rattle.xti_model.specs.declared.profile.Providers.{Providers}
use Rattle.xti_model.specs.History.{Going, unfinished, step_going}
use Rattle.xti_model.specs.World.{World}
use Rattle.xti_model.specs.Step.{Step, step}
use Rattle.xti_model.specs.Resolve.{with_numbers}
use Rattle.xti_model.specs.Robin.{next_or, next_going, is_through, Turn, turn_of, turn_going, turn}
use Rattle.xti_model.proofs.Phases.{through-same}
use Rattle.xti_core.specs.Standing.{Standing}
use Rattle.xti_replay.specs.declared.workers.Part.{Part}
use Rattle.xti_replay.specs.declared.workers.Worker.{Worker}
use Rattle.xti_replay.specs.Spots.{Spot}
use Rattle.xti_replay.specs.Asking.{HasGoneOn}
use Rattle.xti_replay.specs.Known.{HasLearnt, meanings_before}
use Rattle.xti_replay.specs.Progress.{Told, IsNext, MayAsk, IsKnown, IsKept, AreKept, IsReady, IsFound, MayTake, IsAdvance, Makes, Asked, part_going, going_of, call_of, so_far_of, next_act, act_by, begun_call}
use Rattle.xti_replay.proofs.Lines.{beginning, HasNext, next-at, through-at, next-by, next-call, own-other, told-other, next-other, told-begun, told-more}
use Rattle.xti_replay.proofs.Each.{at-worker, get_or_any, of-changed}

pub whole-of : (lines : List Line) (past : List Entry) (number : ℕ) (w : Worker) → Told lines past number w → w.part ≡ None → unfinished past number ≡ None
whole-of lines past number w t e = sym t.part ∙ ap part_going e

-- The next call by the worker's next place.

pub place-within : (lines : List Line) (past : List Entry) (number : ℕ) (w : Worker) (place : ℕ) → Told lines past number w → w.part ≡ None → slice_get w.places.items w.begun ≡ Some place → place < length lines
place-within lines past number w place t whole there =
    let n = next-at lines past number w place t (whole-of lines past number w t whole) there in
    slice_get_within lines place n.0.line (subst (λ (k : ℕ). slice_get lines k ≡ Some n.0.line) n.1 n.2.line)

pub place-next : (lines : List Line) (past : List Entry) (number : ℕ) (w setup : Worker) (place : ℕ) (line : Line) (call : Call) → Told lines past number w → Told lines past 0 setup → w.part ≡ None
    → slice_get w.places.items w.begun ≡ Some place → line ≡ get_or lines place line → call ≡ with_numbers (meanings_before place w.names setup.names) line.call → IsNext lines past number (Some call)
place-next lines past number w setup place line call t z whole there at made =
    let n = next-at lines past number w place t (whole-of lines past number w t whole) there in
    let got : slice_get lines place ≡ Some n.0.line = subst (λ (k : ℕ). slice_get lines k ≡ Some n.0.line) n.1 n.2.line in
    let same : line ≡ n.0.line = at ∙ get_or_from_slice_get lines place n.0.line line got in
    next-call lines past number w setup n.0 call t z n.2
    (made ∙ ap (λ (k : ℕ). with_numbers (meanings_before k w.names setup.names) line.call) (sym n.1) ∙ ap (λ (l : Line). with_numbers (meanings_before n.0.place w.names setup.names) l.call) same)

pub place-none : (lines : List Line) (past : List Entry) (number : ℕ) (w : Worker) → Told lines past number w → w.part ≡ None → slice_get w.places.items w.begun ≡ None → IsNext lines past number None
place-none lines past number w t whole there = sym (through-at lines past number w t (whole-of lines past number w t whole) there)

-- The step.

begins_with : Go → Bool
begins_with go.Begin = true
begins_with (go.More n) = false

begins_it : Option Going → Bool
begins_it None = true
begins_it (Some g) = begins_with g.so_far

-- a worker that begins a call has none that is part way
whole-begin : (lines : List Line) (past : List Entry) (number : ℕ) (w : Worker) (c : Call) → Told lines past number w → next_going lines past number ≡ Some (beginning c) → unfinished past number ≡ None
unfolding begins_it begins_with
whole-begin lines past number w c t h = by w.part refl
  where
    by : (o : Option Part) → w.part ≡ o → unfinished past number ≡ None
    by None e = sym t.part ∙ ap part_going e
    by (Some p) e =
        let goes : next_going lines past number ≡ Some (record { call = p.call; so_far = go.More p.taken }) = ap (next_or lines past number) (sym t.part ∙ ap part_going e) in
        absurd (let no : false ≡ true = ap begins_it (sym goes ∙ h) in cc)

pub begin-next : (lines : List Line) (past : List Entry) (number : ℕ) (w : Worker) (c : Call) → IsReady lines past number w → w.next ≡ Some c → (s : Spot) × HasNext lines past number w s
begin-next lines past number w c r e =
    let goes : next_going lines past number ≡ Some (beginning c) = sym r.going ∙ ap (λ (o : Option Call). going_of (record w { next = o })) e in
    next-by lines past number w (beginning c) r.kept.told (whole-begin lines past number w c r.kept.told goes) goes

pub can-take : (lines : List Line) (past : List Entry) (number : ℕ) (w v : Worker) → IsReady lines past number w → v ≡ record w { next = None } → MayTake lines v (next_act w)
can-take lines past number w v r e = subst (λ (x : Worker). MayTake lines x (next_act w)) (sym e) (by w.next refl)
  where
    by : (o : Option Call) → w.next ≡ o → MayTake lines (record w { next = None }) (next_act (record w { next = o }))
    by None n = tt
    by (Some c) n =
        let h = begin-next lines past number w c r n in
        let place : get_or w.places.items w.begun 0 ≡ h.0.place = get_or_from_slice_get w.places.items w.begun h.0.place 0 h.1.place in
        (slice_get_within w.places.items w.begun h.0.place h.1.place, subst (λ (k : ℕ). k < length lines) (sym place) (slice_get_within lines h.0.place h.0.line h.1.line))

turn-by : (p : Providers) (lines : List Line) (cells : World) (past : List Entry) (number : ℕ) (g : Going) (s : Step) → next_going lines past number ≡ Some g → Some s ≡ option_and_then (step_going p cells) (next_going lines past number)
    → turn p lines cells past number ≡ Some (turn_of number g s)
turn-by p lines cells past number g s n made =
    ap (option_and_then (turn_going p cells number)) n ∙ ap (option_map (turn_of number g)) (sym (made ∙ ap (option_and_then (step_going p cells)) n))

-- the world has gone on by the worker's step
pub has-stepped : (p : Providers) (lines : List Line) (number : ℕ) (past : List Entry) (before after : Standing) (w : Worker) (outcome : Outcome) (state : State) → IsReady lines past number w
    → Some (record { outcome = outcome; after = state; world = after.cells }) ≡ option_and_then (step_going p before.cells) (going_of w) → HasGoneOn after (turn p lines before.cells past number)
has-stepped p lines number past before after w outcome state r made = by (next_going lines past number) refl
  where
    done : Step
    done = record { outcome = outcome; after = state; world = after.cells }

    stepped : Some done ≡ option_and_then (step_going p before.cells) (next_going lines past number)
    stepped = made ∙ ap (option_and_then (step_going p before.cells)) r.going

    by : (g : Option Going) → next_going lines past number ≡ g → HasGoneOn after (turn p lines before.cells past number)
    by None n = absurd (none-some done (sym (stepped ∙ ap (option_and_then (step_going p before.cells)) n)))
    by (Some g) n = (turn_of number g done, turn-by p lines before.cells past number g done n stepped, refl)

pub advance-begun : (lines : List Line) (past : List Entry) (e : Entry) (number : ℕ) (c : Call) (w new : Worker) (s : Spot) → Told lines past number w → HasNext lines past number w s → e.worker ≡ number → e.act ≡ act.Begin c
    → IsAdvance lines w new (act.Begin c) e.outcome → Told lines (past ++ e ∷ []) number new
advance-begun lines past e number c w new s t h own begins a =
    let place : get_or w.places.items w.begun 0 ≡ s.place = get_or_from_slice_get w.places.items w.begun s.place 0 h.place in
    told-begun lines past e number c w new s t h own begins a.places a.count a.part
    (subst (λ (k : ℕ). HasLearnt k s.line.call e.outcome w.names new.names) place (a.names s.line (subst (λ (k : ℕ). slice_get lines k ≡ Some s.line) (sym place) h.line)))

pub advance-more : (lines : List Line) (past : List Entry) (e : Entry) (number : ℕ) (p : Part) (w new : Worker) → Told lines past number w → w.part ≡ Some p → e.worker ≡ number → e.act ≡ act.More
    → IsAdvance lines w new act.More e.outcome → Told lines (past ++ e ∷ []) number new
advance-more lines past e number p w new t is own goes a =
    let same : new.begun ≡ w.begun = omega (arith, a.count) in
    told-more lines past e number p w new t is own goes a.places same a.names a.part

idle-told : (lines : List Line) (past : List Entry) (number : ℕ) (w : Worker) → Told lines past number w → Told lines past number (record w { next = None })
idle-told lines past number w t = record { places = t.places; count = t.count; names = t.names; part = t.part }

pub makes-made : (p : Providers) (lines : List Line) (number : ℕ) (past : List Entry) (before after : Standing) (w v new : Worker) (a : Act) (outcome : Outcome) (state : State)
    → IsReady lines past number w → Some (record { outcome = outcome; after = state; world = after.cells }) ≡ option_and_then (step_going p before.cells) (going_of w)
    → a ≡ next_act w → v ≡ record w { next = None } → new.next ≡ v.next → IsAdvance lines v new a outcome
    → Makes lines number past before after w new (Some (record { worker = number; act = a; outcome = outcome; after = state })) (turn p lines before.cells past number)
makes-made p lines number past before after w v new a outcome state r made acts taken idle advance = by w.next refl
  where
    done : Step
    done = record { outcome = outcome; after = state; world = after.cells }

    stepped : Some done ≡ option_and_then (step_going p before.cells) (next_going lines past number)
    stepped = made ∙ ap (option_and_then (step_going p before.cells)) r.going

    from : IsAdvance lines (record w { next = None }) new (next_act w) outcome
    from = subst (λ (x : Act). IsAdvance lines (record w { next = None }) new x outcome) acts (subst (λ (x : Worker). IsAdvance lines x new a outcome) taken advance)

    none : new.next ≡ None
    none = idle ∙ ap (λ (x : Worker). x.next) taken

    Result : Option Turn → Type 0
    Result o = Makes lines number past before after w new (Some (record { worker = number; act = a; outcome = outcome; after = state })) o

    finished : (g : Going) (x : Act) → next_going lines past number ≡ Some g → a ≡ x → (turn_of number g done).entry.act ≡ x → Told lines (past ++ record { worker = number; act = x; outcome = outcome; after = state } ∷ []) number new
        → Result (turn p lines before.cells past number)
    finished g x n e f told =
        let entry : record { worker = number; act = x; outcome = outcome; after = state } ≡ (turn_of number g done).entry = ap (λ (y : Act). let made : Entry = record { worker = number; act = y; outcome = outcome; after = state } in made) (sym f) in
        let mine : record { worker = number; act = a; outcome = outcome; after = state } ≡ (turn_of number g done).entry = ap (λ (y : Act). let made : Entry = record { worker = number; act = y; outcome = outcome; after = state } in made) e ∙ entry in
        subst Result (sym (turn-by p lines before.cells past number g done n stepped))
        (ap (λ (x : Entry). Some x) mine, refl, refl, subst (λ (y : Entry). Told lines (past ++ y ∷ []) number new) entry told, none)

    part : (o : Option Part) → w.part ≡ o → w.next ≡ None → Result (turn p lines before.cells past number)
    part None q n = absurd (none-some done (sym (made ∙ ap (option_and_then (step_going p before.cells)) (ap (λ (o : Option Call). going_of (record w { next = o })) n ∙ ap part_going q))))
    part (Some x) q n =
        let acted : next_act w ≡ act.More = ap (λ (o : Option Call). next_act (record w { next = o })) n in
        let goes : next_going lines past number ≡ Some (record { call = x.call; so_far = go.More x.taken }) = sym r.going ∙ ap (λ (o : Option Call). going_of (record w { next = o })) n ∙ ap part_going q in
        finished (record { call = x.call; so_far = go.More x.taken }) act.More goes (acts ∙ acted) refl
        (advance-more lines past _ number x (record w { next = None }) new (idle-told lines past number w r.kept.told) q refl refl (subst (λ (y : Act). IsAdvance lines (record w { next = None }) new y outcome) acted from))

    by : (o : Option Call) → w.next ≡ o → Result (turn p lines before.cells past number)
    by None n = part w.part refl n
    by (Some c) n =
        let acted : next_act w ≡ act.Begin c = ap (λ (o : Option Call). next_act (record w { next = o })) n in
        let goes : next_going lines past number ≡ Some (beginning c) = sym r.going ∙ ap (λ (o : Option Call). going_of (record w { next = o })) n in
        let h = begin-next lines past number w c r n in
        let h2 : HasNext lines past number (record w { next = None }) h.0 = record { spot = h.1.spot; place = h.1.place; line = h.1.line; own = h.1.own; going = h.1.going } in
        finished (beginning c) (act.Begin c) goes (acts ∙ acted) refl
        (advance-begun lines past _ number c (record w { next = None }) new h.0 (idle-told lines past number w r.kept.told) h2 refl refl (subst (λ (y : Act). IsAdvance lines (record w { next = None }) new y outcome) acted from))

-- the entry is of the step that the worker made
pub fills : (p : Providers) (lines : List Line) (number : ℕ) (past : List Entry) (before after : Standing) (w v new : Worker) (e : Entry) (a : Act) (outcome : Outcome) (state : State) → IsReady lines past number w
    → e ≡ record { worker = number; act = a; outcome = outcome; after = state } → Some (record { outcome = outcome; after = state; world = after.cells }) ≡ option_and_then (step_going p before.cells) (going_of w)
    → a ≡ next_act w → v ≡ record w { next = None } → new.next ≡ v.next → IsAdvance lines v new e.act e.outcome → Makes lines number past before after w new (Some e) (turn p lines before.cells past number)
fills p lines number past before after w v new e a outcome state r is made acts taken idle advance =
    subst (λ (x : Entry). Makes lines number past before after w new (Some x) (turn p lines before.cells past number)) (sym is)
    (makes-made p lines number past before after w v new a outcome state r made acts taken idle (subst (λ (x : Entry). IsAdvance lines v new x.act x.outcome) is advance))

-- how an entry shows the call that it begins
pub begun-act : (a : Act) → a ≡ act_by (begun_call a)
begun-act (act.Begin c) = refl
begun-act act.More = refl

-- the step of a worker's call, as far as that has come
pub step-going : (p : Providers) (before : World) (o : Option Going) (c : Call) (g : Go) → Some c ≡ call_of o → g ≡ so_far_of o → step p before c g ≡ option_and_then (step_going p before) o
step-going p before None c g h i = absurd (none-some c (sym h))
step-going p before (Some x) c g h i = ap (λ (z : Call). step p before z g) (ap (λ (q : Option Call). unwrap_or q c) h) ∙ ap (step p before x.call) i

pub still-going : (p : Providers) (before : World) (o : Option Going) → None ≡ call_of o → None ≡ option_and_then (step_going p before) o
still-going p before None h = refl
still-going p before (Some x) h = absurd (none-some x.call h)

-- no step: the worker has none, or it is blocked
pub makes-none : (p : Providers) (lines : List Line) (number : ℕ) (past : List Entry) (before after : Standing) (w : Worker) → IsReady lines past number w → None ≡ option_and_then (step_going p before.cells) (going_of w) → after ≡ before
    → Makes lines number past before after w w None (turn p lines before.cells past number)
makes-none p lines number past before after w r blocked still = subst (λ (o : Option Turn). Makes lines number past before after w w None o) (sym none) (refl, still, refl)
  where
    by : (g : Option Going) → None ≡ option_and_then (step_going p before.cells) g → option_and_then (turn_going p before.cells number) g ≡ None
    by None h = refl
    by (Some g) h = ap (option_map (turn_of number g)) (sym h)

    none : turn p lines before.cells past number ≡ None
    none = by (next_going lines past number) (blocked ∙ ap (option_and_then (step_going p before.cells)) r.going)

-- the worker has begun all its lines
pub begins-none : (p : Providers) (lines : List Line) (number : ℕ) (past : List Entry) (world : Standing) (w : Worker) → IsReady lines past number w → w.next ≡ None → w.part ≡ None → Makes lines number past world world w w None (turn p lines world.cells past number)
begins-none p lines number past world w r next whole =
    makes-none p lines number past world world w r (sym (ap (λ (o : Option Call). option_and_then (step_going p world.cells) (going_of (record w { next = o }))) next ∙ ap (λ (o : Option Part). option_and_then (step_going p world.cells) (part_going o)) whole)) refl

-- All workers.

pub through-other : (lines : List Line) (past : List Entry) (e : Entry) (number : ℕ) → e.worker ≢ number → is_through lines (past ++ e ∷ []) number ≡ is_through lines past number
through-other lines past e number ne = through-same lines past (past ++ e ∷ []) number (own-other past e number ne)

known-other : (lines : List Line) (past : List Entry) (e : Entry) (number : ℕ) (next : Option Call) → e.worker ≢ number → (e.worker ≡ 0 → is_through lines past 0 ≡ false) → IsKnown lines past number next → IsKnown lines (past ++ e ∷ []) number next
known-other lines past e number None ne unfinished k = tt
known-other lines past e number (Some c) ne unfinished k = by (eqb_tells e.worker 0) k.1
  where
    by : ((eqb e.worker 0 ≡ true) × (e.worker ≡ 0)) ⊎ ((eqb e.worker 0 ≡ false) × (e.worker ≢ 0)) → MayAsk lines past number → IsKnown lines (past ++ e ∷ []) number (Some c)
    by (inl z) (inl m) = absurd (ne (z.1 ∙ sym m))
    by (inl z) (inr m) = absurd (let no : false ≡ true = sym (unfinished z.1) ∙ m in cc)
    by (inr z) m = (k.0 ∙ sym (next-other lines past e number ne z.1), may m)
      where
        may : MayAsk lines past number → MayAsk lines (past ++ e ∷ []) number
        may (inl m) = inl m
        may (inr m) = inr (through-other lines past e 0 z.1 ∙ m)

pub kept-step : (lines : List Line) (past : List Entry) (ws : List Worker) (number : ℕ) (new : Worker) (e : Entry) → AreKept lines past ws → e.worker ≡ number → (e.worker ≡ 0 → is_through lines past 0 ≡ false) → Told lines (past ++ e ∷ []) number new → IsKnown lines (past ++ e ∷ []) number new.next
    → AreKept lines (past ++ e ∷ []) (set ws number new)
kept-step lines past ws number new e k own unfinished told known = record {
  many = length-set ws number new ∙ k.many;
  each = of-changed (IsKept lines past) (IsKept lines (past ++ e ∷ [])) ws number new k.each
      (λ j v ne l h. record { told = told-other lines past e j v (λ same. ne (sym same ∙ own)) h.told; known = known-other lines past e j v.next (λ same. ne (sym same ∙ own)) unfinished h.known })
      (λ l. record { told = told; known = known });
}

-- the worker was asked
pub asked-by : (lines : List Line) (number : ℕ) (past : List Entry) (before after : Standing) (ws vs : List Worker) (w new : Worker) (entry : Option Entry) (p : Providers) → AreKept lines past ws → w ≡ get_or ws number w → vs ≡ set ws number new
    → Makes lines number past before after w new entry (turn p lines before.cells past number) → Asked lines number past before after vs entry (turn p lines before.cells past number)
asked-by lines number past before after ws vs w new entry p k at items m = by (turn p lines before.cells past number) refl m
  where
    through : (t : Turn) → turn p lines before.cells past number ≡ Some t → is_through lines past number ≡ false
    through t e = going (next_going lines past number) e
      where
        going : (g : Option Going) → option_and_then (turn_going p before.cells number) g ≡ Some t → is_none g ≡ false
        going None e = absurd (none-some t e)
        going (Some g) e = refl

    by : (o : Option Turn) → turn p lines before.cells past number ≡ o → Makes lines number past before after w new entry o → Asked lines number past before after vs entry o
    by None e m = (m.0, m.1, subst (AreKept lines past) (sym (items ∙ ap (set ws number) (m.2 ∙ at) ∙ set-get_or ws number w)) k)
    by (Some t) e m = (
      m.0,
      m.1,
      m.2,
      subst (AreKept lines (past ++ t.entry ∷ [])) (sym items)
          (kept-step lines past ws number new t.entry k m.2 (λ z. subst (λ (n : ℕ). is_through lines past n ≡ false) (sym m.2 ∙ z) (through t e)) m.3 (subst (IsKnown lines (past ++ t.entry ∷ []) number) (sym m.4) tt)),
    )

-- the worker that was asked failed
pub asked-failed : (before after : Standing) (ws vs : List Worker) (number : ℕ) (w new : Worker) (o : Option Turn) → w ≡ get_or ws number w → vs ≡ set ws number new
    → ((after ≡ before) × (new ≡ w)) ⊎ HasGoneOn after o → ((after ≡ before) × (vs ≡ ws)) ⊎ HasGoneOn after o
asked-failed before after ws vs number w new o at items (inl h) = inl (h.0, items ∙ ap (set ws number) (h.1 ∙ at) ∙ set-get_or ws number w)
asked-failed before after ws vs number w new o at items (inr h) = inr h

-- Next calls are found.

pub found-known : (lines : List Line) (past : List Entry) (ws : List Worker) (number : ℕ) (w : Worker) → AreKept lines past ws → number < length ws → w ≡ get_or ws number w → (w.next ≡ None → w.part ≡ None → ⊥) → IsFound lines past number ws
found-known lines past ws number w k lt at not = record { kept = k; ready = λ d. ready (get_or ws number d) (k.each number d lt) (λ n p. not (ap (λ (x : Worker). x.next) (at ∙ same d) ∙ n) (ap (λ (x : Worker). x.part) (at ∙ same d) ∙ p)) }
  where
    same : (d : Worker) → get_or ws number w ≡ get_or ws number d
    same d = get_or_any ws number w d lt

    ready : (v : Worker) → IsKept lines past number v → (v.next ≡ None → v.part ≡ None → ⊥) → IsReady lines past number v
    ready v h never = by v.next refl
      where
        by : (o : Option Call) → v.next ≡ o → IsReady lines past number v
        by (Some c) n =
            let known = subst (IsKnown lines past number) n h.known in
            record {
              kept = h;
              going = ap (λ (o : Option Call). going_of (record v { next = o })) n ∙ known.0;
            }
        by None n = part v.part refl
          where
            part : (o : Option Part) → v.part ≡ o → IsReady lines past number v
            part None q = absurd (never n q)
            part (Some x) q = record {
              kept = h;
              going = ap (λ (o : Option Call). going_of (record v { next = o })) n ∙ ap part_going q ∙ ap (next_or lines past number) (sym (ap part_going q) ∙ h.told.part);
            }

pub found-next : (lines : List Line) (past : List Entry) (ws vs : List Worker) (number : ℕ) (w : Worker) (next : Option Call) → AreKept lines past ws → MayAsk lines past number → number < length ws → w ≡ get_or ws number w → w.part ≡ None → IsNext lines past number next
    → vs ≡ set ws number (record w { next = next }) → IsFound lines past number vs
found-next lines past ws vs number w next k may lt at whole n items = subst (IsFound lines past number) (sym items) (record {
  kept = record {
    many = length-set ws number (record w { next = next }) ∙ k.many;
    each = of-changed (IsKept lines past) (IsKept lines past) ws number (record w { next = next }) k.each (λ j v ne l h. h) (λ l. kept);
  };
  ready = λ d. subst (IsReady lines past number) (sym (get_or-set_same ws number (record w { next = next }) d lt)) (record {
    kept = kept;
    going = by next n;
  });
})
  where
    told : Told lines past number w
    told = (at-worker (IsKept lines past) ws number w k.each lt at).told

    known : (o : Option Call) → IsNext lines past number o → IsKnown lines past number o
    known None m = tt
    known (Some c) m = (m, may)

    kept : IsKept lines past number (record w { next = next })
    kept = record { told = record { places = told.places; count = told.count; names = told.names; part = told.part }; known = known next n }

    by : (o : Option Call) → IsNext lines past number o → going_of (record w { next = o }) ≡ next_going lines past number
    by None m = ap part_going whole ∙ m
    by (Some c) m = m

-- A worker that begins its next line.

-- the worker has no next call that is kept
pub set-idle : (w : Worker) (next : Option Call) → w.next ≡ None → w ≡ record (record w { next = next }) { next = None }
set-idle w next idle = ap (λ (o : Option Call). record w { next = o }) idle

-- the worker made a step of its next line's call, or is blocked before it, or has begun all its lines
pub asked-begun : (lines : List Line) (number : ℕ) (past : List Entry) (before after : Standing) (ws vs : List Worker) (w new : Worker) (next : Option Call) (entry : Option Entry) (p : Providers) → AreKept lines past ws → MayAsk lines past number → number < length ws
    → w ≡ get_or ws number w → w.part ≡ None → IsNext lines past number next → vs ≡ set ws number new → Makes lines number past before after (record w { next = next }) new entry (turn p lines before.cells past number)
    → Asked lines number past before after vs entry (turn p lines before.cells past number)
asked-begun lines number past before after ws vs w new next entry p k may lt at whole is items m =
    let begun : Worker = record w { next = next } in
    let found = found-next lines past ws (set ws number begun) number w next k may lt at whole is refl in
    asked-by lines number past before after (set ws number begun) vs begun new entry p found.kept (sym (get_or-set_same ws number begun begun lt)) (items ∙ sym (set-set ws number begun new)) m

-- the worker that begins its next line is ready for its call
pub begun-ready : (lines : List Line) (past : List Entry) (ws : List Worker) (number : ℕ) (w : Worker) (next : Option Call) → AreKept lines past ws → MayAsk lines past number → number < length ws → w ≡ get_or ws number w → w.part ≡ None → IsNext lines past number next
    → IsReady lines past number (record w { next = next })
begun-ready lines past ws number w next k may lt at whole is =
    let begun : Worker = record w { next = next } in
    let found = found-next lines past ws (set ws number begun) number w next k may lt at whole is refl in
    subst (IsReady lines past number) (get_or-set_same ws number begun begun lt) (found.ready begun)

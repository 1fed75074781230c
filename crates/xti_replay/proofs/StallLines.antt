-- The stall lines of a run are those of its workers that are not finished.
use Rattle.std.proofs.Common.{◌≡◌, ℕ, suc, ◌+◌, ◌<◌, Bool, true, false, ◌&&◌, List, [], ◌∷◌, ◌++◌, get_or, set, Option, Some, None, refl, sym, ap, ◌∙◌, subst, arith, inl, inr, ◌↔◌}
use Rattle.std.specs.Prelude.{is_none, if◌then◌else◌}
use Rattle.std.specs.List.{list_all, flat_map}
use Rattle.std.proofs.lemmas.Bool.{and_parts}
use Rattle.std.proofs.lemmas.List.{append-nil, append_assoc, length-set}
use Rattle.xti_base.specs.declared.limits.TheConstants.{WORKERS}
use Rattle.xti_model.specs.declared.call.Call.{Call}
use Rattle.xti_model.specs.declared.entry.Act.{Act}
use Rattle.xti_model.specs.declared.entry.Go.TheVariants as go
use Rattle.xti_model.specs.declared.entry.Entry.{Entry}
use Rattle.xti_model.specs.declared.script.Line.{Line}
use Rattle.xti_model.specs.declared.script.StallLine.{StallLine}
use Rattle.xti_model.specs.History.{Going}
use Rattle.xti_model.specs.Robin.{next_going, is_through, numbers, act_of}
use Rattle.xti_model.specs.Complete.{workers}
use Rattle.xti_replay.specs.declared.workers.Part.{Part}
use Rattle.xti_replay.specs.declared.workers.Worker.{Worker}
use Rattle.xti_replay.specs.Stalls.{stall_of, stall_at, stalls_after, are_through}
use Rattle.xti_replay.specs.Progress.{IsKept, AreKept, IsFound, MayAsk, IsReady, going_of, next_act, part_going, is_finished}
use Rattle.xti_replay.proofs.Each.{at-worker, of-changed}
use Rattle.xti_replay.proofs.OthersAsked.{finished-through}
use Rattle.xti_replay.proofs.Turns.{numbers-last}

-- how an entry would show the worker's next step
next-shown : (w : Worker) (g : Going) → going_of w ≡ Some g → next_act w ≡ act_of g.so_far g.call
next-shown w g e = by w.next refl
  where
    shown : (h : Going) → Some h ≡ Some g → act_of h.so_far h.call ≡ act_of g.so_far g.call
    shown h q = ap (λ (o : Option Going). elim o [ None ↦ next_act w | Some x ↦ act_of x.so_far x.call ]) q

    part : (o : Option Part) → w.part ≡ o → w.next ≡ None → next_act w ≡ act_of g.so_far g.call
    part None q n = absurd (let no : None ≡ Some g = sym (ap (λ (o : Option Call). going_of (record w { next = o })) n ∙ ap part_going q) ∙ e in cc)
    part (Some p) q n = ap (λ (o : Option Call). next_act (record w { next = o })) n ∙ shown (record { call = p.call; so_far = go.More p.taken }) (sym (ap (λ (o : Option Call). going_of (record w { next = o })) n ∙ ap part_going q) ∙ e)

    by : (o : Option Call) → w.next ≡ o → next_act w ≡ act_of g.so_far g.call
    by None n = part w.part refl n
    by (Some c) n = ap (λ (o : Option Call). next_act (record w { next = o })) n ∙ shown (record { call = c; so_far = go.Begin }) (sym (ap (λ (o : Option Call). going_of (record w { next = o })) n) ∙ e)

pub stall-none : (lines : List Line) (past : List Entry) (number : ℕ) (ws : List Worker) (w : Worker) (stalls : List StallLine) → IsFound lines past number ws → number < WORKERS → w ≡ get_or ws number w → is_finished w ≡ true → stalls ≡ stalls ++ stall_at lines past number
stall-none lines past number ws w stalls f lt at finished = by (next_going lines past number) (sym (finished-through lines past number w (at-worker (IsKept lines past) ws number w f.kept.each (omega (arith, f.kept.many, lt)) at).told) ∙ finished)
  where
    by : (g : Option Going) → is_none g ≡ true → stalls ≡ stalls ++ stall_of number g
    by None h = sym (append-nil stalls)
    by (Some g) h = absurd cc

pub stall-some : (lines : List Line) (past : List Entry) (number : ℕ) (ws : List Worker) (w v : Worker) (act : Act) (stalls : List StallLine) → IsFound lines past number ws → number < WORKERS → w ≡ get_or ws number w → is_finished w ≡ false → act ≡ next_act w
    → v ≡ record w { next = None } → (stalls ++ record { worker = number; act = act } ∷ [] ≡ stalls ++ stall_at lines past number) × AreKept lines past (set ws number v)
stall-some lines past number ws w v act stalls f lt at unfinished acts left = (
  by (next_going lines past number) refl,
  record {
    many = length-set ws number v ∙ f.kept.many;
    each = of-changed (IsKept lines past) (IsKept lines past) ws number v f.kept.each (λ j x ne l h. h) (λ l. subst (IsKept lines past number) (sym left) (record {
      told = record { places = kept.told.places; count = kept.told.count; names = kept.told.names; part = kept.told.part };
      known = tt;
    }));
  },
)
  where
    kept : IsKept lines past number w
    kept = at-worker (IsKept lines past) ws number w f.kept.each (omega (arith, f.kept.many, lt)) at

    ready : IsReady lines past number w
    ready = subst (IsReady lines past number) (sym at) (f.ready w)

    by : (g : Option Going) → next_going lines past number ≡ g → stalls ++ record { worker = number; act = act } ∷ [] ≡ stalls ++ stall_of number g
    by None h = absurd (let no : true ≡ false = sym (finished-through lines past number w kept.told ∙ ap is_none h) ∙ unfinished in cc)
    by (Some g) h = ap (λ (a : Act). stalls ++ record { worker = number; act = a } ∷ []) (acts ∙ next-shown w g (ready.going ∙ h))

-- the stall lines of workers 0 to this one
pub stalls-more : (f : ℕ → List StallLine) (n : ℕ) → flat_map f (numbers 0 (n + 1)) ≡ flat_map f (numbers 0 n) ++ f n
stalls-more f n = ap (flat_map f) (numbers-last 0 n) ∙ over (numbers 0 n) ∙ ap (λ (m : ℕ). flat_map f (numbers 0 n) ++ f m) (let m : 0 + n ≡ n = omega arith in m)
  where
    over : (xs : List ℕ) → flat_map f (xs ++ (0 + n) ∷ []) ≡ flat_map f xs ++ f (0 + n)
    over [] = append-nil (f (0 + n))
    over (x ∷ xs) = ap (λ (l : List StallLine). f x ++ l) (over xs) ∙ sym (append_assoc (f x) (flat_map f xs) (f (0 + n)))

pub all-stalls : (lines : List Line) (past : List Entry) (ws : List Worker) (w : Worker) (n : ℕ) (stalls : List StallLine) → AreKept lines past ws → w ≡ get_or ws 0 w → n ≡ (if is_finished w then WORKERS else 1) → stalls ≡ flat_map (stall_at lines past) (numbers 0 n) → stalls ≡ stalls_after lines past
unfolding stalls_after
all-stalls lines past ws w n stalls k at many s =
    s ∙ ap (λ (m : ℕ). flat_map (stall_at lines past) (numbers 0 m)) (many ∙ ap (λ (b : Bool). if b then WORKERS else 1) (finished-through lines past 0 w (at-worker (IsKept lines past) ws 0 w k.each (omega (arith, k.many)) at).told)) ∙ by (is_through lines past 0)
  where
    by : (b : Bool) → flat_map (stall_at lines past) (numbers 0 (if b then WORKERS else 1)) ≡ (if b then flat_map (stall_at lines past) workers else stall_at lines past 0)
    by true = refl
    by false = append-nil (stall_at lines past 0)

pub may-stall : (lines : List Line) (past : List Entry) (ws : List Worker) (w : Worker) (n k : ℕ) → AreKept lines past ws → w ≡ get_or ws 0 w → n ≡ (if is_finished w then WORKERS else 1) → k < n → MayAsk lines past k × (k < WORKERS)
may-stall lines past ws w n k kept at many lt = by (is_through lines past 0) refl (many ∙ ap (λ (b : Bool). if b then WORKERS else 1) (finished-through lines past 0 w (at-worker (IsKept lines past) ws 0 w kept.each (omega (arith, kept.many)) at).told))
  where
    by : (b : Bool) → is_through lines past 0 ≡ b → n ≡ (if b then WORKERS else 1) → MayAsk lines past k × (k < WORKERS)
    by true h e = (inr h, omega (arith, e, lt))
    by false h e = (inl (omega (arith, e, lt)), omega (arith, e, lt))

-- No stall lines exactly where each worker is finished.

stall-through : (v : ℕ) (g : Option Going) (rest : List StallLine) → stall_of v g ++ rest ≡ [] → (is_none g ≡ true) × (rest ≡ [])
stall-through v None rest h = (refl, h)
stall-through v (Some g) rest h = absurd cc

all-through : (lines : List Line) (past : List Entry) (vs : List ℕ) → flat_map (stall_at lines past) vs ≡ [] → list_all (is_through lines past) vs ≡ true
all-through lines past [] h = refl
all-through lines past (v ∷ vs) h =
    let parts = stall-through v (next_going lines past v) (flat_map (stall_at lines past) vs) h in
    ap (λ (b : Bool). b && list_all (is_through lines past) vs) parts.0 ∙ all-through lines past vs parts.1

no-stall : (v : ℕ) (g : Option Going) → is_none g ≡ true → stall_of v g ≡ []
no-stall v None h = refl
no-stall v (Some g) h = absurd cc

through-all : (lines : List Line) (past : List Entry) (vs : List ℕ) → list_all (is_through lines past) vs ≡ true → flat_map (stall_at lines past) vs ≡ []
through-all lines past [] h = refl
through-all lines past (v ∷ vs) h =
    let parts = and_parts (is_through lines past v) (list_all (is_through lines past) vs) h in
    ap (λ (l : List StallLine). l ++ flat_map (stall_at lines past) vs) (no-stall v (next_going lines past v) parts.0) ∙ through-all lines past vs parts.1

first-through : (lines : List Line) (past : List Entry) (n : ℕ) → list_all (is_through lines past) (numbers 0 (suc n)) ≡ true → is_through lines past 0 ≡ true
first-through lines past n h = (and_parts (is_through lines past 0) (list_all (is_through lines past) (numbers 1 n)) h).0

pub stalls-through : (lines : List Line) (past : List Entry) → (stalls_after lines past ≡ []) ↔ (are_through lines past ≡ true)
unfolding stalls_after are_through
stalls-through lines past = (λ h. to (is_through lines past 0) refl h, λ h. from h)
  where
    to : (b : Bool) → is_through lines past 0 ≡ b → (if b then flat_map (stall_at lines past) workers else stall_at lines past 0) ≡ [] → list_all (is_through lines past) workers ≡ true
    to true e h = all-through lines past workers h
    to false e h =
        let parts = stall-through 0 (next_going lines past 0) [] (append-nil (stall_at lines past 0) ∙ h) in
        absurd (let no : true ≡ false = sym parts.0 ∙ e in cc)

    from : list_all (is_through lines past) workers ≡ true → (if is_through lines past 0 then flat_map (stall_at lines past) workers else stall_at lines past 0) ≡ []
    from h = ap (λ (b : Bool). if b then flat_map (stall_at lines past) workers else stall_at lines past 0) (first-through lines past 32 h) ∙ through-all lines past workers h

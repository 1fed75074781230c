-- Workers and their world after a history of their script.
use Rattle.std.proofs.Common.{◌≡◌, ℕ, zero, suc, ◌+◌, ◌-◌, ◌<◌, true, List, [], ◌∷◌, ◌++◌, length, get_or, set, take, drop, Option, Some, None, refl, sym, ap, ◌∙◌, subst, arith}
use Rattle.std.specs.Prelude.{slice_get, option_map, option_and_then, filter}
use Rattle.std.specs.List.{list_all}
use Rattle.std.proofs.lemmas.Bool.{and_parts, eq-eqb, ltb-true}
use Rattle.std.proofs.lemmas.List.{append-nil, append_assoc, length-set, take_more}
use Rattle.std.proofs.lemmas.Option.{none-some, same_Some, slice_get-map, slice_get_within, get_or_from_slice_get}
use Rattle.xti_base.specs.declared.limits.TheConstants.{WORKERS}
use Rattle.xti_model.specs.declared.call.Call.{Call}
use Rattle.xti_model.specs.declared.entry.Act.{Act}
use Rattle.xti_model.specs.declared.entry.Act.TheVariants as act
use Rattle.xti_model.specs.declared.entry.Entry.{Entry}
use Rattle.xti_model.specs.declared.script.Line.{Line}
use Rattle.xti_model.specs.declared.profile.Providers.{Providers}
use Rattle.xti_model.specs.World.{World, opening}
use Rattle.xti_model.specs.History.{Going, own, unfinished, begins, made_by, doing, step_going, step_at, left_by, after, Fits, LegalFrom}
use Rattle.xti_model.specs.Resolve.{Placed, placed, begun, is_begin}
use Rattle.xti_model.specs.Robin.{last_worker}
use Rattle.xti_model.specs.Complete.{begun_calls, resolved_in, Follows, is_worker, IsHistoryOf}
use Rattle.xti_model.proofs.Appending.{own-append, begun_calls-append}
use Rattle.xti_model.proofs.GoingOn.{history-follows}
use Rattle.xti_model.proofs.Legality.{after-snoc}
use Rattle.xti_core.specs.Standing.{Standing}
use Rattle.xti_replay.specs.declared.workers.Part.{Part}
use Rattle.xti_replay.specs.declared.workers.Worker.{Worker}
use Rattle.xti_replay.specs.Spots.{Spot, spots_of}
use Rattle.xti_replay.specs.Progress.{Told, Of, AreFresh, MayTake, IsAdvance, Repeats, part_going, going_in, left_after}
use Rattle.xti_replay.proofs.Each.{at-worker, of-changed}
use Rattle.xti_replay.proofs.Lines.{has-next, next_spot, placed_by, placed-spots, told-other, unfinished-other, unfinished-begun, unfinished-more}
use Rattle.xti_replay.proofs.Steps.{advance-begun, advance-more}

last-by : (x : Entry) (past : List Entry) (n : ℕ) (e : Entry) → length past ≡ n → slice_get (x ∷ past) n ≡ Some e → last_worker x.worker past ≡ e.worker
last-by x [] zero e l h = ap (λ (y : Entry). y.worker) (same_Some x e h)
last-by x [] (suc n) e l h = absurd (omega (arith, l))
last-by x (y ∷ past) zero e l h = absurd (omega (arith, l))
last-by x (y ∷ past) (suc n) e l h = last-by y past n e (omega (arith, l)) h

pub last-at : (w : ℕ) (past : List Entry) (e : Entry) → slice_get past (length past - 1) ≡ Some e → last_worker w past ≡ e.worker
last-at w [] e h = absurd cc
last-at w (x ∷ past) e h = last-by x past (length past) e refl (subst (λ (n : ℕ). slice_get (x ∷ past) n ≡ Some e) (let n : length (x ∷ past) - 1 ≡ length past = omega arith in n) h)

-- One entry of a history.

legal-at : (p : Providers) (w : World) (before past : List Entry) (e : Entry) (rest : List Entry) → LegalFrom p w before (past ++ e ∷ rest) → (v : World) × Fits (step_at p v (before ++ past) e) e
legal-at p w before [] e rest l = (w, subst (λ (es : List Entry). Fits (step_at p w es e) e) (sym (append-nil before)) l.0)
legal-at p w before (x ∷ past) e rest l =
    let r = legal-at p (left_by w (step_at p w before x)) (before ++ x ∷ []) past e rest l.1 in
    (r.0, subst (λ (es : List Entry). Fits (step_at p r.0 es e) e) (append_assoc before (x ∷ []) past) r.1)

doing-some : (p : Providers) (w : World) (past : List Entry) (e : Entry) → Fits (step_at p w past e) e → doing past e ≡ None → ⊥
doing-some p w past e f n = by (doing past e) n f
  where
    by : (o : Option Going) → o ≡ None → Fits (option_and_then (step_going p w) o) e → ⊥
    by None n f = f
    by (Some g) n f = absurd (none-some g (sym n))

calls-length : (es : List Entry) → length (begun_calls es) ≡ length (filter (λ e. is_begin e.act) es)
calls-length [] = refl
calls-length (e ∷ es) = by e.act refl (calls-length es)
  where
    by : (a : Act) → e.act ≡ a → length (begun_calls es) ≡ length (filter (λ e. is_begin e.act) es) → length (begun_calls (e ∷ es)) ≡ length (filter (λ e. is_begin e.act) (e ∷ es))
    by (act.Begin c) h ih = simp (h, ih) refl
    by act.More h ih = simp (h, ih) refl

get-middle : (xs : List Call) (c : Call) (ys : List Call) (n : ℕ) → length xs ≡ n → slice_get (xs ++ c ∷ ys) n ≡ Some c
get-middle [] c ys zero l = refl
get-middle [] c ys (suc n) l = absurd (omega (arith, l))
get-middle (x ∷ xs) c ys zero l = absurd (omega (arith, l))
get-middle (x ∷ xs) c ys (suc n) l = get-middle xs c ys n (omega (arith, l))

get-take : (n m : ℕ) (xs : List Placed) (l : Placed) → slice_get (take n xs) m ≡ Some l → slice_get xs m ≡ Some l
get-take zero m xs l h = absurd cc
get-take (suc n) m [] l h = absurd cc
get-take (suc n) zero (x ∷ xs) l h = h
get-take (suc n) (suc m) (x ∷ xs) l h = get-take n m xs l h

mapped : {X Y : Type 0} (f : X → Y) (o : Option X) (y : Y) → option_map f o ≡ Some y → (x : X) × (o ≡ Some x) × (f x ≡ y)
mapped f None y h = absurd (none-some y h)
mapped f (Some x) y h = (x, refl, same_Some (f x) y h)

-- the line that an entry begins
pub record IsBegun (lines : List Line) (past : List Entry) (number : ℕ) (c : Call) : Type 0 where
  pub spot : Spot
  pub next : next_spot lines past number ≡ Some spot
  pub whole : unfinished past number ≡ None

own-more : (past : List Entry) (e : Entry) (rest : List Entry) → own (past ++ e ∷ rest) e.worker ≡ own past e.worker ++ e ∷ own rest e.worker
own-more past e rest = own-append past (e ∷ rest) e.worker ∙ rw (eq-eqb e.worker e.worker refl) refl

entry-begins : (p : Providers) (lines : List Line) (past : List Entry) (e : Entry) (rest : List Entry) (c : Call) → IsHistoryOf p lines (past ++ e ∷ rest) → e.act ≡ act.Begin c → IsBegun lines past e.worker c
entry-begins p lines past e rest c h begins = record { spot = spot.0; next = spot.1; whole = by (unfinished past e.worker) refl }
  where
    number : ℕ
    number = e.worker

    m : ℕ
    m = length (begun past number)

    history : List Entry
    history = past ++ e ∷ rest

    calls : begun_calls (own history number) ≡ begun_calls (own past number) ++ c ∷ begun_calls (own rest number)
    calls = ap begun_calls (own-more past e rest) ∙ begun_calls-append (own past number) (e ∷ own rest number) ∙ rw begins refl

    follows : Follows history lines number
    follows = history-follows h number

    call : option_map (resolved_in history) (slice_get (take (length (begun history number)) (placed lines number)) m) ≡ Some c
    call = sym (slice_get-map (resolved_in history) (take (length (begun history number)) (placed lines number)) m) ∙ ap (λ (cs : List Call). slice_get cs m) (sym follows ∙ calls)
        ∙ get-middle (begun_calls (own past number)) c (begun_calls (own rest number)) m (calls-length (own past number))

    line : (l : Placed) × (slice_get (take (length (begun history number)) (placed lines number)) m ≡ Some l) × (resolved_in history l ≡ c)
    line = mapped (resolved_in history) (slice_get (take (length (begun history number)) (placed lines number)) m) c call

    there : slice_get (placed lines number) m ≡ Some line.0
    there = get-take (length (begun history number)) m (placed lines number) line.0 line.1

    spot : (s : Spot) × (next_spot lines past number ≡ Some s) × (placed_by lines s ≡ line.0)
    spot = mapped (placed_by lines) (slice_get (spots_of lines number) m) line.0 (sym (placed-spots [] lines 0 number m refl) ∙ there)

    doing_it : doing past e ≡ None → ⊥
    doing_it = let l = legal-at p (opening p) [] past e rest h.legal in doing-some p l.0 past e l.1

    by : (u : Option Going) → unfinished past number ≡ u → unfinished past number ≡ None
    by None q = q
    by (Some g) q = absurd (doing_it (ap (made_by (unfinished past number)) begins ∙ ap (λ (o : Option Going). made_by o (act.Begin c)) q))

-- the worker's call that is part way is the one that the entries leave
abbrev pub HasPart : List Entry → ℕ → Worker → Type 0
HasPart past number w = part_going w.part ≡ unfinished past number

entry-goes : (p : Providers) (lines : List Line) (past : List Entry) (e : Entry) (rest : List Entry) (w : Worker) → IsHistoryOf p lines (past ++ e ∷ rest) → e.act ≡ act.More → HasPart past e.worker w → (part : Part) × (w.part ≡ Some part)
entry-goes p lines past e rest w h goes t = by w.part refl
  where
    doing_it : doing past e ≡ None → ⊥
    doing_it = let l = legal-at p (opening p) [] past e rest h.legal in doing-some p l.0 past e l.1

    by : (o : Option Part) → w.part ≡ o → (part : Part) × (w.part ≡ Some part)
    by None q = absurd (doing_it (ap (made_by (unfinished past e.worker)) goes ∙ sym t ∙ ap part_going q))
    by (Some x) q = (x, q)

-- Each worker, after the entries so far.

pub record IsTold (lines : List Line) (past : List Entry) (number : ℕ) (w : Worker) : Type 0 where
  pub told : Told lines past number w
  pub idle : w.next ≡ None

pub record AreTold (lines : List Line) (past : List Entry) (ws : List Worker) : Type 0 where
  pub many : length ws ≡ WORKERS
  pub each : Of (IsTold lines past) ws

pub fresh-told : (lines : List Line) (ws : List Worker) → AreFresh lines ws → AreTold lines [] ws
fresh-told lines ws f = record { many = f.many; each = λ k d lt. let h = f.each k d lt in record { told = h.told; idle = h.idle } }

-- each worker's call that is part way is the one that the entries leave
pub record HaveParts (past : List Entry) (ws : List Worker) : Type 0 where
  pub many : length ws ≡ WORKERS
  pub each : Of (HasPart past) ws

pub fresh-parts : (lines : List Line) (ws : List Worker) → AreFresh lines ws → HaveParts [] ws
fresh-parts lines ws f = record { many = f.many; each = λ k d lt. (f.each k d lt).told.part }

pub split-at : (xs : List Entry) (i : ℕ) (d : Entry) → i < length xs → xs ≡ take i xs ++ get_or xs i d ∷ drop (suc i) xs
split-at [] i d lt = absurd (omega arith)
split-at (x ∷ xs) zero d lt = refl
split-at (x ∷ xs) (suc i) d lt = ap (λ (l : List Entry). x ∷ l) (split-at xs i d (omega arith))

worker-small : (past : List Entry) (e : Entry) (rest : List Entry) → list_all is_worker (past ++ e ∷ rest) ≡ true → e.worker < WORKERS
worker-small [] e rest h = ltb-true e.worker WORKERS (and_parts (is_worker e) (list_all is_worker rest) h).0
worker-small (x ∷ past) e rest h = worker-small past e rest (and_parts (is_worker x) (list_all is_worker (past ++ e ∷ rest)) h).1

module _ {p : Providers} {lines : List Line} {history : List Entry} (h : IsHistoryOf p lines history) (i : ℕ) (lt : i < length history) (e : Entry) (at : e ≡ get_or history i e) where
  abbrev past : List Entry
  past = take i history

  split : history ≡ past ++ e ∷ drop (suc i) history
  split = split-at history i e lt ∙ ap (λ (x : Entry). past ++ x ∷ drop (suc i) history) (sym at)

  here : IsHistoryOf p lines (past ++ e ∷ drop (suc i) history)
  here = subst (IsHistoryOf p lines) split h

  pub entry-small : e.worker < WORKERS
  entry-small = worker-small past e (drop (suc i) history) here.workers_only

  pub entry-may : (w : Worker) → Told lines (take i history) e.worker w → MayTake lines w e.act
  entry-may w t = by e.act refl
    where
      by : (a : Act) → e.act ≡ a → MayTake lines w a
      by act.More q = tt
      by (act.Begin c) q =
          let b = entry-begins p lines past e (drop (suc i) history) c here q in
          let n = has-next lines past e.worker w b.spot t b.whole b.next in
          let place : get_or w.places.items w.begun 0 ≡ b.spot.place = get_or_from_slice_get w.places.items w.begun b.spot.place 0 n.place in
          (slice_get_within w.places.items w.begun b.spot.place n.place, subst (λ (k : ℕ). k < length lines) (sym place) (slice_get_within lines b.spot.place b.spot.line n.line))

  -- its step is that of the worker's call
  entry-going : (w : Worker) → HasPart past e.worker w → going_in w.part e.act ≡ doing past e
  entry-going w t = by e.act refl
    where
      by : (a : Act) → e.act ≡ a → going_in w.part e.act ≡ doing past e
      by act.More q = ap (going_in w.part) q ∙ t ∙ sym (ap (made_by (unfinished past e.worker)) q)
      by (act.Begin c) q =
          let b = entry-begins p lines past e (drop (suc i) history) c here q in
          ap (going_in w.part) q ∙ sym (ap (made_by (unfinished past e.worker)) q ∙ ap (λ (o : Option Going). made_by o (act.Begin c)) b.whole)

  grown : take (i + 1) history ≡ past ++ e ∷ []
  grown = take_more history i e lt ∙ ap (λ (x : Entry). past ++ x ∷ []) (sym at)

  pub world-step : (w : Worker) (old new : Standing) → HasPart (take i history) e.worker w → old.providers ≡ p → old.cells ≡ after p (take i history) → Repeats w.part e.act old new → new.cells ≡ after p (take (i + 1) history)
  world-step w old new t providers cells r =
      r.cells
      ∙ ap (λ (q : Providers). left_by old.cells (option_and_then (step_going q old.cells) (going_in w.part e.act))) providers
      ∙ ap (λ (v : World). left_by v (option_and_then (step_going p v) (going_in w.part e.act))) cells
      ∙ ap (λ (g : Option Going). left_by (after p past) (option_and_then (step_going p (after p past)) g)) (entry-going w t)
      ∙ sym (after-snoc p (opening p) [] past e)
      ∙ ap (after p) (sym grown)

  -- and it leaves what is left of that call
  entry-left : (w new : Worker) → HasPart past e.worker w → part_going new.part ≡ left_after w.part e.act e.outcome → HasPart (past ++ e ∷ []) e.worker new
  entry-left w new t left = by e.act refl
    where
      by : (a : Act) → e.act ≡ a → HasPart (past ++ e ∷ []) e.worker new
      by act.More q =
          let g = entry-goes p lines past e (drop (suc i) history) w here q t in
          left ∙ ap (λ (a : Act). left_after w.part a e.outcome) q ∙ sym (unfinished-more past e e.worker g.0 w t g.1 refl q)
      by (act.Begin c) q = left ∙ ap (λ (a : Act). left_after w.part a e.outcome) q ∙ sym (unfinished-begun past e e.worker c refl q)

  pub parts-step : (ws : List Worker) (w new : Worker) → HaveParts (take i history) ws → w ≡ get_or ws e.worker w → part_going new.part ≡ left_after w.part e.act e.outcome → HaveParts (take (i + 1) history) (set ws e.worker new)
  parts-step ws w new f is left = subst (λ (es : List Entry). HaveParts es (set ws e.worker new)) (sym grown) (record {
    many = length-set ws e.worker new ∙ f.many;
    each = of-changed (HasPart past) (HasPart (past ++ e ∷ [])) ws e.worker new f.each
        (λ k v ne l t. t ∙ sym (unfinished-other past e k (λ same. ne (sym same))))
        (λ l. entry-left w new (at-worker (HasPart past) ws e.worker w f.each l is) left);
  })

  entry-told : (w new : Worker) → Told lines (take i history) e.worker w → IsAdvance lines w new e.act e.outcome → Told lines (past ++ e ∷ []) e.worker new
  entry-told w new t a = by e.act refl
    where
      by : (x : Act) → e.act ≡ x → Told lines (past ++ e ∷ []) e.worker new
      by act.More q = let g = entry-goes p lines past e (drop (suc i) history) w here q t.part in advance-more lines past e e.worker g.0 w new t g.1 refl q (subst (λ (x : Act). IsAdvance lines w new x e.outcome) q a)
      by (act.Begin c) q =
          let b = entry-begins p lines past e (drop (suc i) history) c here q in
          advance-begun lines past e e.worker c w new b.spot t (has-next lines past e.worker w b.spot t b.whole b.next) refl q (subst (λ (x : Act). IsAdvance lines w new x e.outcome) q a)

  pub told-step : (ws : List Worker) (w new : Worker) → AreTold lines (take i history) ws → w ≡ get_or ws e.worker w → new.next ≡ w.next → IsAdvance lines w new e.act e.outcome → AreTold lines (take (i + 1) history) (set ws e.worker new)
  told-step ws w new f is next a = subst (λ (es : List Entry). AreTold lines es (set ws e.worker new)) (sym grown) (record {
    many = length-set ws e.worker new ∙ f.many;
    each = of-changed (IsTold lines past) (IsTold lines (past ++ e ∷ [])) ws e.worker new f.each
        (λ k v ne l t. record { told = told-other lines past e k v (λ same. ne (sym same)) t.told; idle = t.idle })
        (λ l. let t = at-worker (IsTold lines past) ws e.worker w f.each l is in record { told = entry-told w new t.told a; idle = next ∙ t.idle });
  })

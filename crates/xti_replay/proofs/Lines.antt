-- A worker's lines, its next call, and what its next entry changes.
use Rattle.std.proofs.Common.{◌≡◌, ◌≢◌, ℕ, zero, suc, ◌+◌, ◌<◌, Bool, true, false, cond, eqb, List, [], ◌∷◌, ◌++◌, length, take, Option, Some, None, refl, sym, ap, ◌∙◌, subst, arith}
use Rattle.std.specs.Prelude.{option_map, slice_get, filter, Vec}
use Rattle.std.specs.declared.alloc.Global.{Global}
use Rattle.std.proofs.lemmas.List.Elements.{filter-append}
use Rattle.std.proofs.lemmas.Bool.{and_parts, eqb-true, ne_eqb, eq-eqb, ltb-true}
use Rattle.std.proofs.lemmas.List.{append-nil, append_assoc, length_push}
use Rattle.std.proofs.lemmas.Option.{same_Some, none-some, slice_get-map}
use Rattle.xti_base.specs.declared.limits.TheConstants.{WORKERS}
use Rattle.xti_model.specs.declared.call.Call.{Call}
use Rattle.xti_model.specs.declared.entry.Act.{Act}
use Rattle.xti_model.specs.declared.entry.Act.TheVariants as act
use Rattle.xti_model.specs.declared.entry.Go.TheVariants as go
use Rattle.xti_model.specs.declared.entry.Entry.{Entry}
use Rattle.xti_model.specs.declared.script.Line.{Line}
use Rattle.xti_model.specs.History.{Going, own, call_after, going_after, unfinished_from, unfinished}
use Rattle.xti_model.specs.Resolve.{is_of, lines_of, is_begin, begun, answer_of, or_else, opened_fd, listened_number, opens, listens, Meanings, Placed, placed_from, meanings, with_numbers, if_own}
use Rattle.xti_model.specs.Robin.{begin_line, next_or, next_going}
use Rattle.xti_model.proofs.Appending.{own-append}
use Rattle.xti_model.proofs.Working.{call_from, unfinished_from-snoc, IsCallOf, call_of-from}
use Rattle.xti_replay.specs.declared.workers.Worker.{Worker}
use Rattle.xti_replay.specs.Playable.{is_playable, are_playable}
use Rattle.xti_replay.specs.Spots.{Spot, spots_from, spots_of, places_of}
use Rattle.xti_replay.specs.Known.{Knows, HasLearnt, meanings_before}
use Rattle.xti_replay.specs.declared.workers.Part.{Part}
use Rattle.xti_replay.specs.Progress.{Told, IsNext, part_going, part_call}
use Rattle.xti_replay.proofs.Meanings.{meanings-same}
use Rattle.xti_replay.proofs.Learning.{knows-still, knows-more}

-- The lines of a worker by their places.

abbrev pub placed_by : List Line → Spot → Placed
placed_by lines s = record { earlier = take s.place lines; line = s.line }

front-of : (before : List Line) (line : Line) (lines : List Line) (from : ℕ) → length before ≡ from → take from (before ++ line ∷ lines) ≡ before
front-of [] line lines zero e = refl
front-of [] line lines (suc n) e = absurd (omega arith)
front-of (x ∷ before) line lines zero e = absurd (omega arith)
front-of (x ∷ before) line lines (suc n) e = ap (λ (l : List Line). x ∷ l) (front-of before line lines n (omega arith))

pub placed-spots : (before lines : List Line) (from worker k : ℕ) → length before ≡ from
    → slice_get (placed_from before lines worker) k ≡ option_map (placed_by (before ++ lines)) (slice_get (spots_from from lines worker) k)
placed-spots before [] from worker k e = refl
placed-spots before (line ∷ lines) from worker k e = by (is_of worker line) k (later (λ j. placed-spots (before ++ line ∷ []) lines (from + 1) worker j longer))
  where
    longer : length (before ++ line ∷ []) ≡ from + 1
    longer = length_push before line ∙ ap (λ (k : ℕ). k + 1) e

    later : ((j : ℕ) → slice_get (placed_from (before ++ line ∷ []) lines worker) j ≡ option_map (placed_by ((before ++ line ∷ []) ++ lines)) (slice_get (spots_from (from + 1) lines worker) j))
        → (j : ℕ) → slice_get (placed_from (before ++ line ∷ []) lines worker) j ≡ option_map (placed_by (before ++ line ∷ lines)) (slice_get (spots_from (from + 1) lines worker) j)
    later h j =
        let shape : (before ++ line ∷ []) ++ lines ≡ before ++ line ∷ lines = append_assoc before (line ∷ []) lines in
        subst (λ (all : List Line). slice_get (placed_from (before ++ line ∷ []) lines worker) j ≡ option_map (placed_by all) (slice_get (spots_from (from + 1) lines worker) j)) shape
        (h j)

    by : (b : Bool) (k : ℕ) → ((j : ℕ) → slice_get (placed_from (before ++ line ∷ []) lines worker) j ≡ option_map (placed_by (before ++ line ∷ lines)) (slice_get (spots_from (from + 1) lines worker) j))
        → slice_get (if_own b (record { earlier = before; line = line }) (placed_from (before ++ line ∷ []) lines worker)) k
        ≡ option_map (placed_by (before ++ line ∷ lines)) (slice_get (cond b (record { place = from; line = line } ∷ spots_from (from + 1) lines worker) (spots_from (from + 1) lines worker)) k)
    by true zero h = ap (λ (l : List Line). Some (record { earlier = l; line = line })) (sym (front-of before line lines from e))
    by true (suc j) h = h j
    by false k h = h k

-- a place of the worker has a line of it
pub record IsSpot (lines : List Line) (from worker : ℕ) (s : Spot) : Type 0 where
  pub index : ℕ
  pub place : s.place ≡ from + index
  pub line : slice_get lines index ≡ Some s.line
  pub own : s.line.worker ≡ worker

pub spot-line : (lines : List Line) (from worker k : ℕ) (s : Spot) → slice_get (spots_from from lines worker) k ≡ Some s → IsSpot lines from worker s
spot-line [] from worker k s h = absurd cc
spot-line (line ∷ lines) from worker k s h = by (is_of worker line) refl k h (λ j. spot-line lines (from + 1) worker j s)
  where
    further : IsSpot lines (from + 1) worker s → IsSpot (line ∷ lines) from worker s
    further i = record { index = suc i.index; place = omega (arith, i.place); line = i.line; own = i.own }

    by : (b : Bool) → is_of worker line ≡ b → (k : ℕ) → slice_get (cond b (record { place = from; line = line } ∷ spots_from (from + 1) lines worker) (spots_from (from + 1) lines worker)) k ≡ Some s
        → ((j : ℕ) → slice_get (spots_from (from + 1) lines worker) j ≡ Some s → IsSpot lines (from + 1) worker s) → IsSpot (line ∷ lines) from worker s
    by true o zero e later =
        let same : record { place = from; line = line } ≡ s = same_Some _ s e in
        subst (λ (t : Spot). IsSpot (line ∷ lines) from worker t) same (record { index = zero; place = omega arith; line = refl; own = eqb-true line.worker worker o })
    by true o (suc j) e later = further (later j e)
    by false o k e later = further (later k e)

-- The next call of a worker.

abbrev pub beginning : Call → Going
beginning c = record { call = c; so_far = go.Begin }

-- the call of the worker's line at this place, after the entries
abbrev pub call_at : List Line → List Entry → ℕ → Spot → Call
call_at lines past worker s = with_numbers (meanings (take s.place lines) worker past) s.line.call

abbrev pub next_spot : List Line → List Entry → ℕ → Option Spot
next_spot lines past worker = slice_get (spots_of lines worker) (length (begun past worker))

abbrev pub going_at : List Line → List Entry → ℕ → Spot → Going
going_at lines past worker s = beginning (call_at lines past worker s)

pub next-spots : (lines : List Line) (past : List Entry) (worker : ℕ) → unfinished past worker ≡ None → next_going lines past worker ≡ option_map (going_at lines past worker) (next_spot lines past worker)
next-spots lines past worker whole =
    ap (next_or lines past worker) whole
    ∙ ap (option_map (begin_line past)) (placed-spots [] lines 0 worker (length (begun past worker)) refl)
    ∙ by (next_spot lines past worker) refl
  where
    by : (o : Option Spot) → next_spot lines past worker ≡ o → option_map (begin_line past) (option_map (placed_by lines) o) ≡ option_map (going_at lines past worker) o
    by None h = refl
    by (Some s) h = ap (λ (v : ℕ). Some (beginning (with_numbers (meanings (take s.place lines) v past) s.line.call))) (spot-line lines 0 worker (length (begun past worker)) s h).own

-- the worker's next line, where it has one
pub record HasNext (lines : List Line) (past : List Entry) (number : ℕ) (w : Worker) (s : Spot) : Type 0 where
  pub spot : slice_get (spots_of lines number) (length (begun past number)) ≡ Some s
  pub place : slice_get w.places.items w.begun ≡ Some s.place
  pub line : slice_get lines s.place ≡ Some s.line
  pub own : s.line.worker ≡ number
  pub going : next_going lines past number ≡ Some (record { call = call_at lines past number s; so_far = go.Begin })

pub place-spot : (lines : List Line) (past : List Entry) (number : ℕ) (w : Worker) → Told lines past number w → slice_get w.places.items w.begun ≡ option_map (λ (s : Spot). s.place) (next_spot lines past number)
place-spot lines past number w t =
    ap (λ (ps : List ℕ). slice_get ps w.begun) t.places ∙ ap (slice_get (places_of lines number)) t.count ∙ slice_get-map (λ (s : Spot). s.place) (spots_of lines number) (length (begun past number))

pub has-next : (lines : List Line) (past : List Entry) (number : ℕ) (w : Worker) (s : Spot) → Told lines past number w → unfinished past number ≡ None → next_spot lines past number ≡ Some s → HasNext lines past number w s
has-next lines past number w s t whole h =
    let i = spot-line lines 0 number (length (begun past number)) s h in
    let at : i.index ≡ s.place = omega (arith, i.place) in
    record {
      spot = h;
      place = place-spot lines past number w t ∙ ap (option_map (λ (s : Spot). s.place)) h;
      line = subst (λ (k : ℕ). slice_get lines k ≡ Some s.line) at i.line;
      own = i.own;
      going = next-spots lines past number whole ∙ ap (option_map (going_at lines past number)) h;
    }

-- by the worker's next place
pub next-at : (lines : List Line) (past : List Entry) (number : ℕ) (w : Worker) (place : ℕ) → Told lines past number w → unfinished past number ≡ None → slice_get w.places.items w.begun ≡ Some place → (s : Spot) × (s.place ≡ place) × HasNext lines past number w s
next-at lines past number w place t whole h = by (next_spot lines past number) refl
  where
    by : (o : Option Spot) → next_spot lines past number ≡ o → (s : Spot) × (s.place ≡ place) × HasNext lines past number w s
    by None e = absurd (none-some place (sym (ap (option_map (λ (s : Spot). s.place)) e) ∙ sym (place-spot lines past number w t) ∙ h))
    by (Some s) e = (s, same_Some s.place place (sym (ap (option_map (λ (s : Spot). s.place)) e) ∙ sym (place-spot lines past number w t) ∙ h), has-next lines past number w s t whole e)

pub through-at : (lines : List Line) (past : List Entry) (number : ℕ) (w : Worker) → Told lines past number w → unfinished past number ≡ None → slice_get w.places.items w.begun ≡ None → next_going lines past number ≡ None
through-at lines past number w t whole h = by (next_spot lines past number) refl
  where
    by : (o : Option Spot) → next_spot lines past number ≡ o → next_going lines past number ≡ None
    by None e = next-spots lines past number whole ∙ ap (option_map (going_at lines past number)) e
    by (Some s) e = absurd (none-some s.place (sym h ∙ place-spot lines past number w t ∙ ap (option_map (λ (s : Spot). s.place)) e))

-- by the worker's next call
pub next-by : (lines : List Line) (past : List Entry) (number : ℕ) (w : Worker) (g : Going) → Told lines past number w → unfinished past number ≡ None → next_going lines past number ≡ Some g → (s : Spot) × HasNext lines past number w s
next-by lines past number w g t whole h = by (next_spot lines past number) refl
  where
    by : (o : Option Spot) → next_spot lines past number ≡ o → (s : Spot) × HasNext lines past number w s
    by None e = absurd (none-some g (sym (next-spots lines past number whole ∙ ap (option_map (going_at lines past number)) e) ∙ h))
    by (Some s) e = (s, has-next lines past number w s t whole e)

pub playable-line : (lines : List Line) (i : ℕ) (line : Line) → are_playable lines ≡ true → slice_get lines i ≡ Some line → is_playable line ≡ true
playable-line [] i line p h = absurd cc
playable-line (x ∷ lines) zero line p h = rw (← same_Some x line h) (and_parts (is_playable x) (are_playable lines) p).0
playable-line (x ∷ lines) (suc i) line p h = playable-line lines i line (and_parts (is_playable x) (are_playable lines) p).1 h

pub line-worker : (line : Line) → is_playable line ≡ true → line.worker < WORKERS
line-worker line p = ltb-true line.worker WORKERS p

-- the call that the tables give is the worker's next
pub next-call : (lines : List Line) (past : List Entry) (number : ℕ) (w setup : Worker) (s : Spot) (call : Call) → Told lines past number w → Told lines past 0 setup → HasNext lines past number w s
    → call ≡ with_numbers (meanings_before s.place w.names setup.names) s.line.call → IsNext lines past number (Some call)
next-call lines past number w setup s call t z h e =
    ap (λ (c : Call). Some (beginning c)) (e ∙ ap (λ (m : Meanings). with_numbers m s.line.call) (meanings-same lines past number s.place w.names setup.names t.names z.names)) ∙ sym h.going

-- One entry more.

pub own-other : (past : List Entry) (e : Entry) (worker : ℕ) → e.worker ≢ worker → own (past ++ e ∷ []) worker ≡ own past worker
own-other past e worker ne =
    let no : eqb e.worker worker ≡ false = ne_eqb e.worker worker ne in
    own-append past (e ∷ []) worker ∙ rw no (append-nil (own past worker))

pub own-same : (past : List Entry) (e : Entry) (worker : ℕ) → e.worker ≡ worker → own (past ++ e ∷ []) worker ≡ own past worker ++ e ∷ []
own-same past e worker same =
    let yes : eqb e.worker worker ≡ true = eq-eqb e.worker worker same in
    own-append past (e ∷ []) worker ∙ rw yes refl

begun-other : (past : List Entry) (e : Entry) (worker : ℕ) → e.worker ≢ worker → begun (past ++ e ∷ []) worker ≡ begun past worker
begun-other past e worker ne = ap (filter (λ (e : Entry). is_begin e.act)) (own-other past e worker ne)

-- another worker's entry leaves the call as it is that is part way
pub unfinished-other : (past : List Entry) (e : Entry) (worker : ℕ) → e.worker ≢ worker → unfinished (past ++ e ∷ []) worker ≡ unfinished past worker
unfinished-other past e worker ne = ap (unfinished_from None None) (own-other past e worker ne)

-- another worker's entry changes nothing that is told of a worker
pub told-other : (lines : List Line) (past : List Entry) (e : Entry) (number : ℕ) (w : Worker) → e.worker ≢ number → Told lines past number w → Told lines (past ++ e ∷ []) number w
told-other lines past e number w ne t = record {
  places = t.places;
  count = t.count ∙ ap length (sym (begun-other past e number ne));
  names = knows-still lines past (past ++ e ∷ []) number w.names (begun-other past e number ne) t.names;
  part = t.part ∙ sym (unfinished-other past e number ne);
}

-- the worker's next call by its own entries and those of worker 0
abbrev told_by : List Line → ℕ → List Entry → List Entry → Meanings
told_by earlier worker es zs = record {
  fd = λ name. record { 0 = opened_fd (or_else (answer_of (opens name) (lines_of earlier worker) es) (answer_of (opens name) (lines_of earlier 0) zs)) };
  seq = λ name. record { 0 = listened_number (or_else (answer_of (listens name) (lines_of earlier worker) es) (answer_of (listens name) (lines_of earlier 0) zs)) };
}

abbrev going_by : List Line → ℕ → List Entry → List Entry → Option Going
going_by lines worker es zs =
    option_map (λ (s : Spot). beginning (with_numbers (told_by (take s.place lines) worker es zs) s.line.call)) (slice_get (spots_of lines worker) (length es))

-- nor its next step, where it is not of worker 0
pub next-other : (lines : List Line) (past : List Entry) (e : Entry) (number : ℕ) → e.worker ≢ number → e.worker ≢ 0 → next_going lines (past ++ e ∷ []) number ≡ next_going lines past number
next-other lines past e number ne nz = by (unfinished past number) refl
  where
    same : unfinished (past ++ e ∷ []) number ≡ unfinished past number
    same = unfinished-other past e number ne

    by : (u : Option Going) → unfinished past number ≡ u → next_going lines (past ++ e ∷ []) number ≡ next_going lines past number
    by None h =
        next-spots lines (past ++ e ∷ []) number (same ∙ h)
        ∙ ap (λ (es : List Entry). going_by lines number es (begun (past ++ e ∷ []) 0)) (begun-other past e number ne)
        ∙ ap (going_by lines number (begun past number)) (begun-other past e 0 nz)
        ∙ sym (next-spots lines past number h)
    by (Some g) h = ap (next_or lines (past ++ e ∷ []) number) (same ∙ h) ∙ sym (ap (next_or lines past number) h)

begun-same : (past : List Entry) (e : Entry) (worker : ℕ) → e.worker ≡ worker → is_begin e.act ≡ true → begun (past ++ e ∷ []) worker ≡ begun past worker ++ e ∷ []
begun-same past e worker same begins =
    ap (filter (λ (e : Entry). is_begin e.act)) (own-same past e worker same)
    ∙ filter-append (λ (e : Entry). is_begin e.act) (own past worker) (e ∷ [])
    ∙ rw begins refl

unfinished-same : (past : List Entry) (e : Entry) (worker : ℕ) → e.worker ≡ worker → unfinished (past ++ e ∷ []) worker ≡ going_after (call_after (call_from None (own past worker)) e.act) e.outcome
unfinished-same past e worker same = ap (unfinished_from None None) (own-same past e worker same) ∙ unfinished_from-snoc None None (own past worker) e

-- its own entry leaves the rest of the call that it begins
pub unfinished-begun : (past : List Entry) (e : Entry) (worker : ℕ) (c : Call) → e.worker ≡ worker → e.act ≡ act.Begin c → unfinished (past ++ e ∷ []) worker ≡ going_after (Some c) e.outcome
unfinished-begun past e worker c same begins = unfinished-same past e worker same ∙ ap (λ (a : Act). going_after (call_after (call_from None (own past worker)) a) e.outcome) begins

-- or of the one that was part way
pub unfinished-more : (past : List Entry) (e : Entry) (worker : ℕ) (p : Part) (w : Worker) → part_going w.part ≡ unfinished past worker → w.part ≡ Some p → e.worker ≡ worker → e.act ≡ act.More → unfinished (past ++ e ∷ []) worker ≡ going_after (part_call w.part) e.outcome
unfinished-more past e worker p w t is same goes =
    let going : unfinished past worker ≡ Some (record { call = p.call; so_far = go.More p.taken }) = sym t ∙ ap part_going is in
    let call : call_from None (own past worker) ≡ Some p.call = subst (IsCallOf (call_from None (own past worker))) going (call_of-from None None (own past worker) tt) in
    unfinished-same past e worker same ∙ ap (λ (a : Act). going_after (call_after (call_from None (own past worker)) a) e.outcome) goes ∙ ap (λ (c : Option Call). going_after c e.outcome) (call ∙ sym (ap part_call is))

-- its own entry begins its next line
pub told-begun : (lines : List Line) (past : List Entry) (e : Entry) (number : ℕ) (c : Call) (w new : Worker) (s : Spot) → Told lines past number w → HasNext lines past number w s
    → e.worker ≡ number → e.act ≡ act.Begin c → new.places ≡ w.places → new.begun ≡ w.begun + 1 → part_going new.part ≡ going_after (Some c) e.outcome
    → HasLearnt s.place s.line.call e.outcome w.names new.names
    → Told lines (past ++ e ∷ []) number new
told-begun lines past e number c w new s t h same begins places count part names =
    let grown = begun-same past e number same (ap is_begin begins) in
    record {
      places = ap (λ (v : Vec ℕ Global). v.items) places ∙ t.places;
      count = count ∙ ap (λ (k : ℕ). k + 1) t.count ∙ sym (length_push (begun past number) e) ∙ ap length (sym grown);
      names = knows-more lines past (past ++ e ∷ []) number s e w.names new.names h.spot grown t.names names;
      part = part ∙ sym (unfinished-begun past e number c same begins);
    }

begun-quiet : (past : List Entry) (e : Entry) (worker : ℕ) → e.worker ≡ worker → is_begin e.act ≡ false → begun (past ++ e ∷ []) worker ≡ begun past worker
begun-quiet past e worker same more =
    ap (filter (λ (e : Entry). is_begin e.act)) (own-same past e worker same)
    ∙ filter-append (λ (e : Entry). is_begin e.act) (own past worker) (e ∷ [])
    ∙ rw more (append-nil (begun past worker))

-- or it goes on with its call
pub told-more : (lines : List Line) (past : List Entry) (e : Entry) (number : ℕ) (p : Part) (w new : Worker) → Told lines past number w → w.part ≡ Some p
    → e.worker ≡ number → e.act ≡ act.More → new.places ≡ w.places → new.begun ≡ w.begun → new.names ≡ w.names → part_going new.part ≡ going_after (part_call w.part) e.outcome
    → Told lines (past ++ e ∷ []) number new
told-more lines past e number p w new t is same goes places count names part =
    let quiet = begun-quiet past e number same (ap is_begin goes) in
    record {
      places = ap (λ (v : Vec ℕ Global). v.items) places ∙ t.places;
      count = count ∙ t.count ∙ ap length (sym quiet);
      names = subst (Knows lines (past ++ e ∷ []) number) (sym names) (knows-still lines past (past ++ e ∷ []) number w.names quiet t.names);
      part = part ∙ sym (unfinished-more past e number p w t.part is same goes);
    }

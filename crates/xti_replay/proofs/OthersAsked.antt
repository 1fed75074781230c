-- Workers other than 0 are asked one after the other.
use Rattle.std.proofs.Common.{◌≡◌, ◌≢◌, ℕ, suc, ◌+◌, ◌-◌, ◌<◌, ◌≤◌, ◌⊎◌, inl, inr, Bool, true, false, ◌&&◌, eqb, List, [], ◌∷◌, ◌++◌, length, get_or, Option, Some, None, refl, sym, ap, ◌∙◌, subst, arith}
use Rattle.std.specs.Prelude.{if◌then◌else◌, is_none, nat_le, option_map, option_and_then, slice_get}
use Rattle.std.specs.List.{AllByRecursion}
use Rattle.std.proofs.lemmas.Bool.Decides.{eqb_tells, nat_tests}
use Rattle.std.proofs.lemmas.List.{append-nil, append_assoc}
use Rattle.std.proofs.lemmas.Option.{none-some, slice_get_cases}
use Rattle.xti_base.specs.declared.limits.TheConstants.{WORKERS, LAST_WORKER}
use Rattle.xti_model.specs.declared.entry.Entry.{Entry}
use Rattle.xti_model.specs.declared.script.Line.{Line}
use Rattle.xti_model.specs.declared.profile.Providers.{Providers}
use Rattle.xti_model.specs.World.{World}
use Rattle.xti_model.specs.History.{Going}
use Rattle.xti_model.specs.Robin.{next_or, next_going, is_through, last_worker, numbers, order_after, Turn, turn, turn_going, first_turn, next_turn}
use Rattle.xti_model.proofs.Appending.{all-append, all-split}
use Rattle.xti_model.proofs.Turns.{all-numbers}
use Rattle.xti_core.specs.Standing.{Standing}
use Rattle.xti_replay.specs.declared.workers.Part.{Part}
use Rattle.xti_replay.specs.declared.workers.Worker.{Worker}
use Rattle.xti_replay.specs.declared.run.Run.{Run}
use Rattle.xti_replay.specs.Progress.{Told, IsKept, AreKept, Asked, part_going, is_finished}
use Rattle.xti_replay.specs.Asking.{HasGoneOn}
use Rattle.xti_replay.specs.Turns.{LeavesOutFinished, AreTurns}
use Rattle.xti_replay.specs.Runs.{StandsAfter, AsksOthers, HasAsked, GoesOn, Remains, put_back}
use Rattle.xti_replay.specs.Spots.{Spot}
use Rattle.xti_replay.proofs.Each.{at-worker}
use Rattle.xti_replay.proofs.Lines.{next_spot, going_at, next-spots, place-spot}
use Rattle.xti_replay.proofs.Steps.{whole-of, through-other}
use Rattle.xti_replay.proofs.Turns.{order-turned, leaves-append, leaves-one, leaves-later, leaves-first, leaves-all, first-cons, first-finished}

-- Whether a worker is finished.

none-map : {X Y : Type 0} (f : X → Y) (o : Option X) → is_none (option_map f o) ≡ is_none o
none-map f None = refl
none-map f (Some x) = refl

pub finished-through : (lines : List Line) (past : List Entry) (number : ℕ) (w : Worker) → Told lines past number w → is_finished w ≡ is_through lines past number
finished-through lines past number w t = by w.part refl
  where
    count : nat_le (length w.places.items) w.begun ≡ is_none (slice_get w.places.items w.begun)
    count = cases (slice_get_cases w.places.items w.begun).1
      where
        cases : ((x : ℕ) × (w.begun < length w.places.items) × (slice_get w.places.items w.begun ≡ Some x) × (get_or w.places.items w.begun x ≡ x)) ⊎ ((length w.places.items ≤ w.begun) × (slice_get w.places.items w.begun ≡ None))
            → nat_le (length w.places.items) w.begun ≡ is_none (slice_get w.places.items w.begun)
        cases (inl h) = let no : nat_le (length w.places.items) w.begun ≡ false = grind (arith, nat_tests, h.1) in no ∙ ap is_none (sym h.2)
        cases (inr h) = let yes : nat_le (length w.places.items) w.begun ≡ true = grind (arith, nat_tests, h.0) in yes ∙ ap is_none (sym h.1)

    by : (o : Option Part) → w.part ≡ o → (is_none w.part && nat_le (length w.places.items) w.begun) ≡ is_through lines past number
    by (Some p) e = ap (λ (o : Option Part). is_none o && nat_le (length w.places.items) w.begun) e ∙ sym (ap (λ (u : Option Going). is_none (next_or lines past number u)) (sym t.part ∙ ap part_going e))
    by None e =
        ap (λ (o : Option Part). is_none o && nat_le (length w.places.items) w.begun) e ∙ count ∙ ap is_none (place-spot lines past number w t)
        ∙ none-map (λ (s : Spot). s.place) (next_spot lines past number) ∙ sym (none-map (going_at lines past number) (next_spot lines past number))
        ∙ ap is_none (sym (next-spots lines past number (whole-of lines past number w t e)))

-- The worker whose turn it is was asked.

head_of : ℕ → List ℕ → ℕ
head_of d [] = d
head_of d (y ∷ l) = y

rest_of : List ℕ → List ℕ
rest_of [] = []
rest_of (y ∷ l) = l

pub has-asked : (past : List Entry) (n number : ℕ) (left rest : List ℕ) (r s : Run) (entry : Option Entry) (f : ℕ → Option Turn) (w : Worker) → number ∷ rest ≡ n ∷ left → number < WORKERS
    → Asked r.lines.now n past r.world s.world s.workers.items entry (f n) → w ≡ get_or s.workers.items n w → s.turns.items ≡ (if is_finished w then left else left ++ n ∷ []) → HasAsked past number rest r s entry (f number)
unfolding head_of rest_of
has-asked past n number left rest r s entry f w items small asked at turns = subst (λ (m : ℕ). HasAsked past number rest r s entry (f m)) (sym head) (by (f n) asked)
  where
    head : number ≡ n
    head = ap (head_of n) items

    tail : rest ≡ left
    tail = ap rest_of items

    lt : n < WORKERS
    lt = subst (λ (m : ℕ). m < WORKERS) head small

    put : (es : List Entry) → AreKept r.lines.now es s.workers.items → s.turns.items ≡ put_back r.lines.now es number rest
    put es k =
        turns ∙ ap (λ (b : Bool). if b then left else left ++ n ∷ []) (finished-through r.lines.now es n w (at-worker (IsKept r.lines.now es) s.workers.items n w k.each (omega (arith, k.many, lt)) at).told)
        ∙ ap (λ (l : List ℕ). if is_through r.lines.now es n then l else l ++ n ∷ []) (sym tail) ∙ ap (λ (m : ℕ). put_back r.lines.now es m rest) (sym head)

    by : (o : Option Turn) → Asked r.lines.now n past r.world s.world s.workers.items entry o → HasAsked past number rest r s entry o
    by None a = (a.0, a.1, a.2, put past a.2)
    by (Some t) a = (a.0, a.1, a.2 ∙ sym head, a.3, put (past ++ t.entry ∷ []) a.3)

-- it failed
pub first-failed : (past : List Entry) (n number : ℕ) (left rest : List ℕ) (r s : Run) (f : ℕ → Option Turn) → number ∷ rest ≡ n ∷ left → AreKept r.lines.now past r.workers.items
    → ((s.world ≡ r.world) × (s.workers.items ≡ r.workers.items)) ⊎ HasGoneOn s.world (f n) → Remains past r s (f number)
unfolding head_of
first-failed past n number left rest r s f items k (inl h) = inl (h.0, subst (AreKept r.lines.now past) (sym h.1) k)
first-failed past n number left rest r s f items k (inr h) = inr (subst (λ (m : ℕ). HasGoneOn s.world (f m)) (sym (ap (head_of n) items)) h)

-- its turn was over, and then it was not put back
pub first-lost : (past : List Entry) (n number : ℕ) (left rest : List ℕ) (r s : Run) (entry : Option Entry) (f : ℕ → Option Turn) → number ∷ rest ≡ n ∷ left
    → Asked r.lines.now n past r.world s.world s.workers.items entry (f n) → Remains past r s (f number)
unfolding head_of
first-lost past n number left rest r s entry f items asked = subst (λ (m : ℕ). Remains past r s (f m)) (sym (ap (head_of n) items)) (by (f n) asked)
  where
    by : (o : Option Turn) → Asked r.lines.now n past r.world s.world s.workers.items entry o → Remains past r s o
    by None a = inl (a.1, a.2)
    by (Some t) a = inr (t, refl, a.1)

-- Those that were asked so far had no step.

abbrev pub turn_in : List Entry → Run → ℕ → Option Turn
turn_in past r = turn r.world.providers r.lines.now r.world.cells past

abbrev pub IsOther : ℕ → Type 0
IsOther number = (0 < number) × (number < WORKERS)

order-others : (last : ℕ) → last < WORKERS → AllByRecursion IsOther (order_after last)
order-others last small = all-append IsOther (numbers (last + 1) (LAST_WORKER - last)) (numbers 1 last)
    (all-numbers IsOther (last + 1) (LAST_WORKER - last) (λ k a b. (omega arith, omega arith)))
    (all-numbers IsOther 1 last (λ k a b. (omega arith, omega (arith, small))))

pub record AreAsked (past : List Entry) (base r : Run) (many i : ℕ) : Type 0 where
  pub lines : r.lines.now ≡ base.lines.now
  pub world : r.world ≡ base.world
  pub kept : AreKept base.lines.now past r.workers.items
  pub before : List ℕ
  pub after : List ℕ
  pub firsts : List ℕ
  pub lasts : List ℕ
  pub order : order_after (last_worker 0 past) ≡ before ++ after
  pub turns : r.turns.items ≡ firsts ++ lasts
  pub to_ask : LeavesOutFinished base.lines.now past after firsts
  pub asked : LeavesOutFinished base.lines.now past before lasts
  pub left : first_turn (turn_in past base) (order_after (last_worker 0 past)) ≡ first_turn (turn_in past base) after
  pub count : length firsts + i ≡ many

pub asked-none : (past : List Entry) (r : Run) (many : ℕ) → StandsAfter past r → many ≡ length r.turns.items → AreAsked past r r many 0
asked-none past r many k e = record {
  lines = refl;
  world = refl;
  kept = k.kept;
  before = [];
  after = order_after (last_worker 0 past);
  firsts = r.turns.items;
  lasts = [];
  order = refl;
  turns = sym (append-nil r.turns.items);
  to_ask = k.turns;
  asked = refl;
  left = refl;
  count = omega (arith, e);
}

pub asks-others : (past : List Entry) (base r : Run) (many i : ℕ) → StandsAfter past base → is_through base.lines.now past 0 ≡ true → AreAsked past base r many i → AsksOthers past r
asks-others past base r many i k through a =
    let all = all-split IsOther a.before a.after (subst (AllByRecursion IsOther) a.order (order-others (last_worker 0 past) k.last)) in
    record {
      kept = subst (λ (ls : List Line). AreKept ls past r.workers.items) (sym a.lines) a.kept;
      through = ap (λ (ls : List Line). is_through ls past 0) a.lines ∙ through;
      within = subst (AllByRecursion IsOther) (sym a.turns)
          (all-append IsOther a.firsts a.lasts (leaves-all base.lines.now past IsOther a.after a.firsts all.1 a.to_ask) (leaves-all base.lines.now past IsOther a.before a.lasts all.0 a.asked));
    }

idle-turn : (p : Providers) (lines : List Line) (w : World) (past : List Entry) (k : ℕ) → is_through lines past k ≡ true → turn p lines w past k ≡ None
idle-turn p lines w past k = by (next_going lines past k)
  where
    by : (g : Option Going) → is_none g ≡ true → option_and_then (turn_going p w k) g ≡ None
    by None h = refl
    by (Some g) h = absurd cc

-- where all of these are finished, none of them has a turn
pub no-turn : (p : Providers) (lines : List Line) (w : World) (past : List Entry) (xs : List ℕ) → LeavesOutFinished lines past xs [] → first_turn (turn p lines w past) xs ≡ None
no-turn p lines w past xs h = ap (first_turn (turn p lines w past)) (sym (append-nil xs)) ∙ first-finished lines past (turn p lines w past) xs [] (idle-turn p lines w past) h

put-append : (b : Bool) (rest lasts : List ℕ) (k : ℕ) → (if b then rest ++ lasts else (rest ++ lasts) ++ k ∷ []) ≡ rest ++ (lasts ++ (if b then [] else k ∷ []))
put-append true rest lasts k = ap (λ (l : List ℕ). rest ++ l) (sym (append-nil lasts))
put-append false rest lasts k = append_assoc rest lasts (k ∷ [])

-- the next one that is asked
pub record IsNextAsked (past : List Entry) (base r : Run) (many i : ℕ) : Type 0 where
  pub number : ℕ
  pub rest : List ℕ
  pub lasts : List ℕ
  pub items : r.turns.items ≡ number ∷ (rest ++ lasts)
  pub before : List ℕ
  pub after : List ℕ
  pub order : order_after (last_worker 0 past) ≡ before ++ number ∷ after
  pub to_ask : LeavesOutFinished base.lines.now past after rest
  pub asked : LeavesOutFinished base.lines.now past before lasts
  pub left : first_turn (turn_in past base) (order_after (last_worker 0 past)) ≡ first_turn (turn_in past base) (number ∷ after)
  pub count : length rest + (i + 1) ≡ many

pub next-asked : (past : List Entry) (base r : Run) (many i : ℕ) → AreAsked past base r many i → i < many → IsNextAsked past base r many i
next-asked past base r many i a lt = by a.firsts refl
  where
    by : (firsts : List ℕ) → a.firsts ≡ firsts → IsNextAsked past base r many i
    by [] e = absurd (let none : length a.firsts ≡ 0 = ap length e in omega (arith, a.count, lt, none))
    by (k ∷ rest) e =
        let f = leaves-first base.lines.now past a.after k rest (subst (LeavesOutFinished base.lines.now past a.after) e a.to_ask) in
        record {
          number = k;
          rest = rest;
          lasts = a.lasts;
          items = a.turns ∙ ap (λ (l : List ℕ). l ++ a.lasts) e;
          before = a.before ++ f.before;
          after = f.after;
          order = a.order ∙ ap (λ (l : List ℕ). a.before ++ l) f.is ∙ sym (append_assoc a.before f.before (k ∷ f.after));
          to_ask = f.others;
          asked = subst (LeavesOutFinished base.lines.now past (a.before ++ f.before)) (append-nil a.lasts) (leaves-append base.lines.now past a.before f.before a.lasts [] a.asked f.finished);
          left = a.left ∙ ap (first_turn (turn_in past base)) f.is ∙ first-finished base.lines.now past (turn_in past base) f.before (k ∷ f.after) (λ j h. idle-turn base.world.providers base.lines.now base.world.cells past j h) f.finished;
          count = let long : length a.firsts ≡ suc (length rest) = ap length e in omega (arith, a.count, long);
        }

turn-same : (past : List Entry) (base r : Run) (many i k : ℕ) → AreAsked past base r many i → turn_in past r k ≡ turn_in past base k
turn-same past base r many i k a = ap (λ (x : Standing). turn x.providers r.lines.now x.cells past k) a.world ∙ ap (λ (ls : List Line). turn base.world.providers ls base.world.cells past k) a.lines

pub asked-next : (past : List Entry) (base r s : Run) (many i : ℕ) (entry : Option Entry) (a : AreAsked past base r many i) (n : IsNextAsked past base r many i) → HasAsked past n.number (n.rest ++ n.lasts) r s entry (turn_in past r n.number) → s.lines.now ≡ r.lines.now → entry ≡ None
    → AreAsked past base s many (i + 1)
asked-next past base r s many i entry a n h lines none = by (turn_in past r n.number) refl h
  where
    by : (o : Option Turn) → turn_in past r n.number ≡ o → HasAsked past n.number (n.rest ++ n.lasts) r s entry o → AreAsked past base s many (i + 1)
    by (Some t) e h = absurd (none-some t.entry (sym none ∙ h.0))
    by None e h = record {
      lines = lines ∙ a.lines;
      world = h.1 ∙ a.world;
      kept = subst (λ (ls : List Line). AreKept ls past s.workers.items) a.lines h.2;
      before = n.before ++ n.number ∷ [];
      after = n.after;
      firsts = n.rest;
      lasts = n.lasts ++ (if is_through base.lines.now past n.number then [] else n.number ∷ []);
      order = n.order ∙ sym (append_assoc n.before (n.number ∷ []) n.after);
      turns = h.3 ∙ ap (λ (ls : List Line). put_back ls past n.number (n.rest ++ n.lasts)) a.lines ∙ put-append (is_through base.lines.now past n.number) n.rest n.lasts n.number;
      to_ask = n.to_ask;
      asked = leaves-append base.lines.now past n.before (n.number ∷ []) n.lasts _ n.asked (leaves-one base.lines.now past n.number);
      left = n.left ∙ (first-cons (turn_in past base) n.number n.after).0 (sym (turn-same past base r many i n.number a) ∙ e);
      count = n.count;
    }

pub last-push : (w : ℕ) (past : List Entry) (e : Entry) → last_worker w (past ++ e ∷ []) ≡ e.worker
last-push w [] e = refl
last-push w (x ∷ past) e = last-push x.worker past e

abbrev pub next_in : List Entry → Run → Option Turn
next_in past r = next_turn r.world.providers r.lines.now r.world.cells past

next-others : (past : List Entry) (r : Run) → is_through r.lines.now past 0 ≡ true → next_in past r ≡ first_turn (turn_in past r) (order_after (last_worker 0 past))
next-others past r h = ap (λ (b : Bool). first_turn (turn_in past r) (if b then order_after (last_worker 0 past) else 0 ∷ [])) h

pub asked-turn : (past : List Entry) (base r s : Run) (many i : ℕ) (entry : Option Entry) (e : Entry) (k : StandsAfter past base) → is_through base.lines.now past 0 ≡ true → (a : AreAsked past base r many i) (n : IsNextAsked past base r many i)
    → HasAsked past n.number (n.rest ++ n.lasts) r s entry (turn_in past r n.number) → s.lines.now ≡ r.lines.now → entry ≡ Some e → GoesOn past base s (Some e) (next_in past base)
asked-turn past base r s many i entry e k through a n h lines some = by (turn_in past r n.number) refl h
  where
    lines_are : s.lines.now ≡ base.lines.now
    lines_are = lines ∙ a.lines

    turned : (order_after n.number ≡ n.after ++ (n.before ++ n.number ∷ [])) × (0 < n.number) × (n.number < WORKERS)
    turned = order-turned (last_worker 0 past) n.number n.before n.after k.last n.order

    by : (o : Option Turn) → turn_in past r n.number ≡ o → HasAsked past n.number (n.rest ++ n.lasts) r s entry o → GoesOn past base s (Some e) (next_in past base)
    by None f h = absurd (none-some e (sym h.0 ∙ some))
    by (Some t) f h =
        let made : turn_in past base n.number ≡ Some t = sym (turn-same past base r many i n.number a) ∙ f in
        subst (GoesOn past base s (Some e)) (sym (next-others past base through ∙ n.left ∙ (first-cons (turn_in past base) n.number n.after).1 t made)) (
          sym some ∙ h.0,
          h.1,
          record {
            kept = subst (λ (ls : List Line). AreKept ls later s.workers.items) (sym lines) h.3;
            turns = subst (λ (ls : List Line). AreTurns ls later s.turns.items) (sym lines_are) (turns made);
            last = subst (λ (w : ℕ). w < WORKERS) (sym (last-push 0 past t.entry ∙ h.2)) turned.2;
            setup = λ f. absurd (let no : true ≡ false = sym (stays 0 through made) ∙ sym (ap (λ (ls : List Line). is_through ls later 0) lines_are) ∙ f in cc);
          },
        )
      where
        later : List Entry
        later = past ++ t.entry ∷ []

        stays : (j : ℕ) → is_through base.lines.now past j ≡ true → turn_in past base n.number ≡ Some t → is_through base.lines.now later j ≡ true
        stays j th made = other (eqb_tells j n.number)
          where
            other : ((eqb j n.number ≡ true) × (j ≡ n.number)) ⊎ ((eqb j n.number ≡ false) × (j ≢ n.number)) → is_through base.lines.now later j ≡ true
            other (inl q) = absurd (none-some t (sym (idle-turn base.world.providers base.lines.now base.world.cells past n.number (subst (λ (m : ℕ). is_through base.lines.now past m ≡ true) q.1 th)) ∙ made))
            other (inr q) = through-other base.lines.now past t.entry j (λ same. q.1 (sym same ∙ h.2)) ∙ th

        turns : turn_in past base n.number ≡ Some t → AreTurns base.lines.now later s.turns.items
        turns made =
            let stay : (j : ℕ) → is_through base.lines.now past j ≡ true → is_through base.lines.now later j ≡ true = λ j th. stays j th made in
            let items : s.turns.items ≡ n.rest ++ (n.lasts ++ (if is_through base.lines.now later n.number then [] else n.number ∷ [])) =
            h.4 ∙ ap (λ (ls : List Line). put_back ls later n.number (n.rest ++ n.lasts)) a.lines ∙ put-append (is_through base.lines.now later n.number) n.rest n.lasts n.number in
            let order : order_after (last_worker 0 later) ≡ n.after ++ (n.before ++ n.number ∷ []) = ap order_after (last-push 0 past t.entry ∙ h.2) ∙ turned.0 in
            subst (λ (l : List ℕ). LeavesOutFinished base.lines.now later l s.turns.items) (sym order)
            (subst (LeavesOutFinished base.lines.now later (n.after ++ (n.before ++ n.number ∷ []))) (sym items)
            (leaves-append base.lines.now later n.after (n.before ++ n.number ∷ []) n.rest _ (leaves-later base.lines.now past later n.after n.rest stay n.to_ask)
            (leaves-append base.lines.now later n.before (n.number ∷ []) n.lasts _ (leaves-later base.lines.now past later n.before n.lasts stay n.asked) (leaves-one base.lines.now later n.number))))

-- the next one that was asked failed
pub others-failed : (past : List Entry) (base r s : Run) (many i : ℕ) → is_through base.lines.now past 0 ≡ true → (a : AreAsked past base r many i) (n : IsNextAsked past base r many i) → Remains past r s (turn_in past r n.number)
    → Remains past base s (next_in past base)
others-failed past base r s many i through a n (inl h) = inl (h.0 ∙ a.world, subst (λ (ls : List Line). AreKept ls past s.workers.items) a.lines h.1)
others-failed past base r s many i through a n (inr h) =
    inr (h.0, next-others past base through ∙ n.left ∙ (first-cons (turn_in past base) n.number n.after).1 h.0 (sym (turn-same past base r many i n.number a) ∙ h.1), h.2)

pub asked-all : (past : List Entry) (base r : Run) (many i : ℕ) → StandsAfter past base → is_through base.lines.now past 0 ≡ true → AreAsked past base r many i → many ≤ i → GoesOn past base r None (next_in past base)
asked-all past base r many i k through a le = by a.firsts refl
  where
    by : (firsts : List ℕ) → a.firsts ≡ firsts → GoesOn past base r None (next_in past base)
    by (x ∷ rest) e = absurd (let long : length a.firsts ≡ suc (length rest) = ap length e in omega (arith, a.count, le, long))
    by [] e =
        let none : first_turn (turn_in past base) a.after ≡ None = no-turn base.world.providers base.lines.now base.world.cells past a.after (subst (LeavesOutFinished base.lines.now past a.after) e a.to_ask) in
        let items : r.turns.items ≡ a.lasts ++ a.firsts = a.turns ∙ ap (λ (l : List ℕ). l ++ a.lasts) e ∙ sym (append-nil a.lasts) ∙ ap (λ (l : List ℕ). a.lasts ++ l) (sym e) in
        let turns : AreTurns base.lines.now past r.turns.items =
        subst (λ (l : List ℕ). LeavesOutFinished base.lines.now past l r.turns.items) (sym a.order) (subst (LeavesOutFinished base.lines.now past (a.before ++ a.after)) (sym items) (leaves-append base.lines.now past a.before a.after a.lasts a.firsts a.asked a.to_ask)) in
        subst (GoesOn past base r None) (sym (next-others past base through ∙ a.left ∙ none)) (
          refl,
          a.world,
          record {
            kept = subst (λ (ls : List Line). AreKept ls past r.workers.items) (sym a.lines) a.kept;
            turns = subst (λ (ls : List Line). AreTurns ls past r.turns.items) (sym a.lines) turns;
            last = k.last;
            setup = λ f. k.setup (sym (ap (λ (ls : List Line). is_through ls past 0) a.lines) ∙ f);
          },
        )

-- The entry that was made, beside the run.

pub stands-with : (past : List Entry) (r : Run) (e : Entry) (m : Bool) → StandsAfter past r → StandsAfter past (record r { entry = e; made = m })
stands-with past r e m k = record { kept = k.kept; turns = k.turns; last = k.last; setup = k.setup }

-- the entry is kept, or handed out
pub goes-out : (past : List Entry) (old mid : Run) (e f : Entry) (m n : Bool) (entry : Option Entry) (o : Option Turn) → GoesOn past (record old { entry = f; made = n }) mid entry o → GoesOn past old (record mid { entry = e; made = m }) entry o
goes-out past old mid e f m n entry None g = (g.0, g.1, stands-with past mid e m g.2)
goes-out past old mid e f m n entry (Some t) g = (g.0, g.1, stands-with (past ++ t.entry ∷ []) mid e m g.2)

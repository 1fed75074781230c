-- Workers that have begun no line, and lines that are handed out.
use Rattle.std.proofs.Common.{◌≡◌, ◌≢◌, ℕ, ◌+◌, ◌-◌, ◌<◌, ◌≤◌, Bool, true, false, cond, eqb, List, [], ◌∷◌, ◌++◌, length, get_or, set, map, take, None, refl, sym, ap, ◌∙◌, subst, arith, inl, inr}
use Rattle.std.specs.Prelude.{if◌then◌else◌}
use Rattle.std.proofs.lemmas.Bool.{eq-eqb, ne_eqb}
use Rattle.std.proofs.lemmas.List.{append-nil, map-append, length-set, length-take, length_push, take_more}
use Rattle.xti_base.specs.declared.limits.TheConstants.{WORKERS}
use Rattle.xti_model.specs.declared.entry.Entry.{Entry}
use Rattle.xti_model.specs.declared.script.Line.{Line}
use Rattle.xti_model.specs.Resolve.{is_of}
use Rattle.xti_model.specs.Robin.{is_through, numbers}
use Rattle.xti_replay.specs.declared.workers.Worker.{Worker}
use Rattle.xti_replay.specs.Spots.{Spot, spots_from, spots_of, places_of}
use Rattle.xti_replay.specs.Known.{known_in, Knows}
use Rattle.xti_replay.specs.Progress.{Of, IsFresh, AreFresh, IsKept, AreKept, part_going, is_finished}
use Rattle.xti_replay.specs.Turns.{LeavesOutFinished}
use Rattle.xti_replay.proofs.Each.{at-worker, of-push, of-changed}
use Rattle.xti_replay.proofs.Learning.{knows-nothing, knows-none}
use Rattle.xti_replay.proofs.OthersAsked.{finished-through}
use Rattle.xti_replay.proofs.Turns.{leaves-append, numbers-last}

pub spots-more : (from : ℕ) (lines : List Line) (line : Line) (worker : ℕ) → spots_from from (lines ++ line ∷ []) worker ≡ spots_from from lines worker ++ cond {A = List Spot} (is_of worker line) (record { place = from + length lines; line = line } ∷ []) []
spots-more from [] line worker = by (is_of worker line)
  where
    by : (b : Bool) → cond {A = List Spot} b (record { place = from; line = line } ∷ []) [] ≡ [] ++ cond {A = List Spot} b (record { place = from + 0; line = line } ∷ []) []
    by true = ap (λ (n : ℕ). let s : Spot = record { place = n; line = line } in s ∷ []) (let e : from ≡ from + 0 = omega arith in e)
    by false = refl
spots-more from (x ∷ lines) line worker = by (is_of worker x) (spots-more (from + 1) lines line worker ∙ ap (λ (n : ℕ). spots_from (from + 1) lines worker ++ cond {A = List Spot} (is_of worker line) (record { place = n; line = line } ∷ []) []) shift)
  where
    shift : from + 1 + length lines ≡ from + length (x ∷ lines)
    shift = omega arith

    by : (b : Bool) → spots_from (from + 1) (lines ++ line ∷ []) worker ≡ spots_from (from + 1) lines worker ++ cond {A = List Spot} (is_of worker line) (record { place = from + length (x ∷ lines); line = line } ∷ []) []
        → cond {A = List Spot} b (record { place = from; line = x } ∷ spots_from (from + 1) (lines ++ line ∷ []) worker) (spots_from (from + 1) (lines ++ line ∷ []) worker)
        ≡ cond {A = List Spot} b (record { place = from; line = x } ∷ spots_from (from + 1) lines worker) (spots_from (from + 1) lines worker) ++ cond {A = List Spot} (is_of worker line) (record { place = from + length (x ∷ lines); line = line } ∷ []) []
    by true h = ap (λ (l : List Spot). let s : Spot = record { place = from; line = x } in s ∷ l) h
    by false h = h

pub places-own : (lines : List Line) (line : Line) (worker i : ℕ) → length lines ≡ i → line.worker ≡ worker → places_of (lines ++ line ∷ []) worker ≡ places_of lines worker ++ i ∷ []
places-own lines line worker i long own =
    let yes : eqb line.worker worker ≡ true = eq-eqb line.worker worker own in
    ap (map (λ (s : Spot). s.place)) (spots-more 0 lines line worker)
    ∙ map-append (λ (s : Spot). s.place) (spots_of lines worker) _
    ∙ rw yes (ap (λ (n : ℕ). places_of lines worker ++ n ∷ []) (omega (arith, long)))

pub places-other : (lines : List Line) (line : Line) (worker : ℕ) → line.worker ≢ worker → places_of (lines ++ line ∷ []) worker ≡ places_of lines worker
places-other lines line worker other =
    let no : eqb line.worker worker ≡ false = ne_eqb line.worker worker other in
    ap (map (λ (s : Spot). s.place)) (spots-more 0 lines line worker) ∙ rw no (ap (map (λ (s : Spot). s.place)) (append-nil (spots_of lines worker)))

pub fresh-of : (lines : List Line) (number : ℕ) (w : Worker) → w.places.items ≡ places_of lines number → w.begun ≡ 0 → Knows lines [] number w.names → w.part ≡ None → w.next ≡ None → IsFresh lines number w
fresh-of lines number w places count names part idle = record {
  told = record { places = places; count = count; names = names; part = ap part_going part };
  idle = idle;
}

pub fresh-push : (n : ℕ) (ws : List Worker) (w : Worker) → length ws ≡ n → Of (IsFresh []) ws → w.places.items ≡ [] → w.begun ≡ 0 → ((name : List ℕ) → known_in w.names.endpoints name ≡ None) → ((name : List ℕ) → known_in w.names.sequences name ≡ None) → w.part ≡ None → w.next ≡ None → (length (ws ++ w ∷ []) ≡ n + 1) × Of (IsFresh []) (ws ++ w ∷ [])
fresh-push n ws w many each places count fds seqs part idle = (length_push ws w ∙ ap (λ (k : ℕ). k + 1) many, of-push (IsFresh []) ws w each (fresh-of [] (length ws) w places count (knows-nothing [] (length ws) w.names fds seqs) part idle))

part-none : (lines : List Line) (number : ℕ) (w : Worker) → IsFresh lines number w → part_going w.part ≡ None
part-none lines number w f = f.told.part

again : (lines more : List Line) (number : ℕ) (w new : Worker) → IsFresh lines number w → new.places.items ≡ places_of more number → new.begun ≡ w.begun → new.names ≡ w.names → new.part ≡ w.part → new.next ≡ w.next → IsFresh more number new
again lines more number w new f places begun names part next = record {
  told = record {
    places = places;
    count = begun ∙ f.told.count;
    names = subst (Knows more [] number) (sym names) (knows-none lines more number w.names f.told.names);
    part = ap part_going part ∙ f.told.part;
  };
  idle = next ∙ f.idle;
}

pub fresh-handed : (lines : List Line) (place : ℕ) (ws : List Worker) (line : Line) (w new : Worker) → AreFresh (take place lines) ws → place < length lines → line ≡ get_or lines place line → line.worker < WORKERS → w ≡ get_or ws line.worker w
    → new.places.items ≡ w.places.items ++ place ∷ [] → new.begun ≡ w.begun → new.names ≡ w.names → new.part ≡ w.part → new.next ≡ w.next → AreFresh (take (place + 1) lines) (set ws line.worker new)
fresh-handed lines place ws line w new f lt at small is places begun names part next = record {
  many = length-set ws line.worker new ∙ f.many;
  each = subst (λ (more : List Line). Of (IsFresh more) (set ws line.worker new)) (sym grown)
      (of-changed (IsFresh (take place lines)) (IsFresh (take place lines ++ line ∷ [])) ws line.worker new f.each
      (λ k v ne l h. again (take place lines) (take place lines ++ line ∷ []) k v v h (h.told.places ∙ sym (places-other (take place lines) line k (λ same. ne (sym same)))) refl refl refl refl)
      (λ l. let h = at-worker (IsFresh (take place lines)) ws line.worker w f.each l is in
      again (take place lines) (take place lines ++ line ∷ []) line.worker w new h (places ∙ ap (λ (ps : List ℕ). ps ++ place ∷ []) h.told.places ∙ sym (places-own (take place lines) line line.worker place long refl)) begun names part next));
}
  where
    grown : take (place + 1) lines ≡ take place lines ++ line ∷ []
    grown = take_more lines place line lt ∙ ap (λ (l : Line). take place lines ++ l ∷ []) (sym at)

    long : length (take place lines) ≡ place
    long = omega (arith, length-take place lines, lt)

-- Turns from the first on.

pub leaves-more : (lines : List Line) (past : List Entry) (ws : List Worker) (from i : ℕ) (more : List ℕ) (w : Worker) → AreKept lines past ws → from ≤ i → i < length ws → w ≡ get_or ws i w → LeavesOutFinished lines past (numbers from (i - from)) more
    → LeavesOutFinished lines past (numbers from (i + 1 - from)) (more ++ (if is_finished w then [] else i ∷ []))
leaves-more lines past ws from i more w k le lt at h =
    subst (λ (l : List ℕ). LeavesOutFinished lines past l (more ++ (if is_finished w then [] else i ∷ []))) (sym grown)
    (leaves-append lines past (numbers from (i - from)) (i ∷ []) more _ h (by (is_finished w) (sym (finished-through lines past i w (at-worker (IsKept lines past) ws i w k.each lt at).told))))
  where
    grown : numbers from (i + 1 - from) ≡ numbers from (i - from) ++ i ∷ []
    grown =
        let n : i + 1 - from ≡ i - from + 1 = omega (arith, le) in
        let m : from + (i - from) ≡ i = omega (arith, le) in
        ap (numbers from) n ∙ numbers-last from (i - from) ∙ ap (λ (x : ℕ). numbers from (i - from) ++ x ∷ []) m

    by : (b : Bool) → is_through lines past i ≡ b → LeavesOutFinished lines past (i ∷ []) (if b then [] else i ∷ [])
    by true e = inl (e, refl)
    by false e = inr ([], refl, refl)

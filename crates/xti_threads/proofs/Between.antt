-- A worker between two of its lines, whose seat's own entries come after those of others.
use Rattle.std.proofs.Common.{◌≡◌, ℕ, ◌+◌, ◌<◌, List, [], ◌∷◌, ◌++◌, length, get_or, take, Option, Some, None, refl, sym, ap, ◌∙◌, subst, append_assoc}
use Rattle.std.specs.Prelude.{IfSome, filter, is_none, true, slice_get, Vec}
use Rattle.std.specs.declared.alloc.Global.{Global}
use Rattle.std.specs.List.{AllByRecursion}
use Rattle.std.proofs.lemmas.List.{append-nil, length_push}
use Rattle.std.proofs.lemmas.Option.{none-some, same_Some, slice_get_within, get_or_from_slice_get}
use Rattle.xti_model.specs.declared.call.Call.{Call}
use Rattle.xti_model.specs.declared.entry.Act.TheVariants as act
use Rattle.xti_model.specs.declared.entry.Go.TheVariants as go
use Rattle.xti_model.specs.declared.entry.Entry.{Entry}
use Rattle.xti_model.specs.declared.entry.Outcome.TheVariants.{Done}
use Rattle.xti_model.specs.declared.entry.Reply.{Reply}
use Rattle.xti_model.specs.declared.script.Line.{Line}
use Rattle.xti_model.specs.History.{Going, unfinished, unfinished_from}
use Rattle.xti_model.specs.Resolve.{is_begin, begun, meanings}
use Rattle.xti_model.specs.Robin.{act_of, is_through}
use Rattle.xti_model.proofs.Appending.{begun-append}
use Rattle.xti_model.proofs.Legality.{unfinished-goes_on}
use Rattle.xti_model.proofs.Turns.{MayGo}
use Rattle.xti_model.specs.Following.{IsFollowed}
use Rattle.xti_model.proofs.Following.{Continues, next-continues, followed-more}
use Rattle.xti_hall_rule.specs.declared.view.View.{View}
use Rattle.xti_hall_rule.specs.Histories.{own}
use Rattle.xti_hall.specs.Seats.{IsStanding}
use Rattle.xti_step.specs.Steps.{Later}
use Rattle.xti_calls.specs.Calling.{IsMore, AreSteps, Answered}
use Rattle.xti_replay.specs.declared.workers.Part.{Part}
use Rattle.xti_replay.specs.declared.workers.Worker.{Worker}
use Rattle.xti_replay.specs.Spots.{Spot}
use Rattle.xti_replay.specs.Known.{HasLearnt}
use Rattle.xti_replay.specs.Progress.{Told, IsNext, IsNextCall, MayTake, part_going}
use Rattle.xti_replay.proofs.Learning.{knows-more}
use Rattle.xti_replay.proofs.Lines.{HasNext, next-by, beginning, call_at}
use Rattle.xti_threads.specs.Working.{HasBegun}
use Rattle.xti_threads.proofs.OwnEntries.{IsBy, own-all, own-after, more-by}
use Rattle.xti_threads.proofs.FirstSteps.{Begins, first-tells}

-- ---- steps of one call

followed-mores : (lines : List Line) (past es : List Entry) (n : ℕ) → IsFollowed lines past n → AllByRecursion IsMore es → IsFollowed lines (past ++ es) n
followed-mores lines past [] n f m = subst (λ (z : List Entry). IsFollowed lines z n) (sym (append-nil past)) f
followed-mores lines past (e ∷ es) n f m =
    subst (λ (z : List Entry). IsFollowed lines z n) (append_assoc past (e ∷ []) es)
    (followed-mores lines (past ++ e ∷ []) es n (followed-more lines past e n f (subst (Continues lines past e.worker) (sym m.0) tt)) m.1)

followed-steps : (lines : List Line) (past : List Entry) (c : Call) (es : List Entry) (n : ℕ) → IsFollowed lines past n → Continues lines past n (act.Begin c) → AreSteps c go.Begin es → AllByRecursion (IsBy n) es → IsFollowed lines (past ++ es) n
followed-steps lines past c [] n f k s b = subst (λ (z : List Entry). IsFollowed lines z n) (sym (append-nil past)) f
followed-steps lines past c (e ∷ es) n f k s b =
    subst (λ (z : List Entry). IsFollowed lines z n) (append_assoc past (e ∷ []) es)
    (followed-mores lines (past ++ e ∷ []) es n (followed-more lines past e n f (subst (λ (w : ℕ). Continues lines past w e.act) (sym b.0) (subst (Continues lines past n) (sym s.0) k))) s.1)

none-begun : (es : List Entry) → AllByRecursion IsMore es → filter (λ (e : Entry). is_begin e.act) es ≡ []
none-begun [] m = refl
none-begun (e ∷ es) m = rw (ap is_begin m.0) (none-begun es m.1)

-- they begin one line
one-begun : (past es mores : List Entry) (first : Entry) (c : Call) (n : ℕ) → es ≡ first ∷ mores → AreSteps c go.Begin es → AllByRecursion (IsBy n) es → begun (past ++ es) n ≡ begun past n ++ first ∷ []
one-begun past es mores first c n are steps by_n =
    let s : AreSteps c go.Begin (first ∷ mores) = subst (AreSteps c go.Begin) are steps in
    let alone : filter (λ (e : Entry). is_begin e.act) (first ∷ mores) ≡ first ∷ [] = rw (ap is_begin s.0) (ap (λ (l : List Entry). first ∷ l) (none-begun mores s.1)) in
    begun-append past es n
    ∙ ap (λ (l : List Entry). begun past n ++ l) (ap (filter (λ (e : Entry). is_begin e.act)) (own-all n es by_n ∙ are) ∙ alone)

-- and what is told of the worker then, where the first tells the same as the reply
told-steps : (lines : List Line) (past es : List Entry) (n : ℕ) (c : Call) (w new : Worker) (s : Spot) → Told lines past n w → HasNext lines past n w s → AreSteps c go.Begin es → AllByRecursion (IsBy n) es
    → Begins es s.place s.line.call w.names new.names → unfinished (past ++ es) n ≡ None → new.places ≡ w.places → new.begun ≡ w.begun + 1 → new.part ≡ None → Told lines (past ++ es) n new
told-steps lines past es n c w new s t h steps by_n b idle places count whole =
    let grown = one-begun past es b.mores b.first c n b.are steps by_n in
    record {
      places = ap (λ (v : Vec ℕ Global). v.items) places ∙ t.places;
      count = count ∙ ap (λ (k : ℕ). k + 1) t.count ∙ sym (length_push (begun past n) b.first) ∙ ap length (sym grown);
      names = knows-more lines past (past ++ es) n s b.first w.names new.names h.spot grown t.names b.learnt;
      part = ap part_going whole ∙ sym idle;
    }

pub no-part : (o : Option Part) → part_going o ≡ None → o ≡ None
no-part None e = refl
no-part (Some p) e = absurd (none-some _ (sym e))

-- ---- the worker and its seat

pub record Between (lines : List Line) (front : List Entry) (n : ℕ) (v : View) (w setup : Worker) : Type 0 where
  pub others : own n front ≡ []
  pub number : v.number ≡ n
  pub standing : IsStanding v
  pub may : MayGo lines (front ++ v.mine) n
  pub follows : IsFollowed lines (front ++ v.mine) n
  pub told : Told lines (front ++ v.mine) n w
  pub setup_told : Told lines (front ++ v.mine) 0 setup
  pub whole : w.part ≡ None

module _ {lines : List Line} {front : List Entry} {n : ℕ} {v : View} {w setup : Worker} (k : Between lines front n v w setup) where
  abbrev past : List Entry
  past = front ++ v.mine

  ended : unfinished past n ≡ None
  ended = sym k.told.part ∙ ap part_going k.whole

  -- no call of the seat is unfinished
  pub between-idle : unfinished_from None None v.mine ≡ None
  between-idle = ap (unfinished_from None None) (sym (own-after front v n k.others k.number k.standing)) ∙ ended

  continues : (c : Call) → IsNext lines past n (Some c) → Continues lines past n (act.Begin c)
  continues c next = subst (λ (o : Option Going). IfSome o (λ g. Continues lines past n (act_of g.so_far g.call))) (sym next) (next-continues lines past n k.may (unfinished past n) (unfinished-goes_on past n))

  -- steps of its next line's call are those of its lines
  pub between-follows : (c : Call) (v' : View) (es : List Entry) → IsNext lines past n (Some c) → IsStanding v' → Later v v' → v'.mine ≡ v.mine ++ es → AreSteps c go.Begin es → IsFollowed lines (front ++ v'.mine) n
  between-follows c v' es next standing later mine steps =
      subst (λ (l : List Entry). IsFollowed lines l n) (append_assoc front v.mine es ∙ ap (λ (l : List Entry). front ++ l) (sym mine))
      (followed-steps lines past c es n k.follows (continues c next) steps (more-by v v' es n (later.number ∙ k.number) standing mine))

  abbrev next-line : (c : Call) → IsNext lines past n (Some c) → (s : Spot) × HasNext lines past n w s
  next-line c next = next-by lines past n w (beginning c) k.told ended (sym next)

  -- its next line's call, by what it knows
  pub between-next : (o : Option Call) (c : Call) → o ≡ Some c → IsNextCall lines w setup o → IsNext lines past n (Some c)
  between-next o c e known = subst (IsNext lines past n) e (known past n k.told k.setup_told)

  pub between-takes : (c : Call) → IsNext lines past n (Some c) → MayTake lines w (act.Begin c)
  between-takes c next =
      let h = next-line c next in
      let place : get_or w.places.items w.begun 0 ≡ h.0.place = get_or_from_slice_get w.places.items w.begun h.0.place 0 h.1.place in
      (slice_get_within w.places.items w.begun h.0.place h.1.place, subst (λ (j : ℕ). j < length lines) (sym place) (slice_get_within lines h.0.place h.0.line h.1.line))

  -- what is told of it once the call is answered
  pub between-told : (c : Call) (v' : View) (new : Worker) (reply : Reply) → IsNext lines past n (Some c) → IsStanding v' → Later v v' → Answered v c go.Begin v' reply → HasBegun lines reply w new → Told lines (front ++ v'.mine) n new
  between-told c v' new reply next standing later a b =
      subst (λ (l : List Entry). Told lines l n new) all
      (told-steps lines past es n c w new h.0 k.told h.1 a.steps by_n first idle b.places b.count b.whole)
    where
      es : List Entry
      es = a.parts ++ a.last ∷ []

      number : v'.number ≡ n
      number = later.number ∙ k.number

      by_n : AllByRecursion (IsBy n) es
      by_n = more-by v v' es n number standing a.mine

      all : past ++ es ≡ front ++ v'.mine
      all = append_assoc front v.mine es ∙ ap (λ (l : List Entry). front ++ l) (sym a.mine)

      idle : unfinished (past ++ es) n ≡ None
      idle = ap (λ (l : List Entry). unfinished l n) all ∙ (ap (unfinished_from None None) (own-after front v' n k.others number standing) ∙ a.finished)

      h : (s : Spot) × HasNext lines past n w s
      h = next-line c next

      place : get_or w.places.items w.begun 0 ≡ h.0.place
      place = get_or_from_slice_get w.places.items w.begun h.0.place 0 h.1.place

      learnt : HasLearnt h.0.place h.0.line.call (Done reply) w.names new.names
      learnt = subst (λ (j : ℕ). HasLearnt j h.0.line.call (Done reply) w.names new.names) place (b.names h.0.line (subst (λ (j : ℕ). slice_get lines j ≡ Some h.0.line) (sym place) h.1.line))

      is : c ≡ call_at lines past n h.0
      is = ap (λ (g : Going). g.call) (same_Some (beginning c) (beginning (call_at lines past n h.0)) (next ∙ h.1.going))

      first : Begins es h.0.place h.0.line.call w.names new.names
      first = first-tells v'.setting.providers v'.seen v.mine v'.number c a.parts a.last reply (meanings (take h.0.place lines) n past) h.0.line.call h.0.place w.names new.names
          standing.legal (standing.mine ∙ a.mine) between-idle a.steps a.outcome is learnt

-- a worker without a next call is finished
pub none-through : (lines : List Line) (h : List Entry) (n : ℕ) → IsNext lines h n None → is_through lines h n ≡ true
none-through lines h n next = ap is_none (sym next)

-- Main's seat and the workers, from the setup to the threads.
use Rattle.std.specs.Prelude.{ℕ, suc, ◌+◌, ◌<◌, ◌≤◌, List, [], ◌∷◌, length, vec_len, filter, None, Result, Ok, Err, IfOk, Vec, slice_index_or, ◌≡◌, true}
use Rattle.std.specs.declared.alloc.Global.{Global}
use Rattle.std.specs.List.{list_all, remove}
use Rattle.std.proofs.Common.{refl, sym, ap, subst, ◌∙◌, arith}
use mathlib.Core.List.{IsPrefix}
use Rattle.xti_base.specs.declared.limits.TheConstants.{WORKERS}
use Rattle.xti_model.specs.declared.entry.Entry.{Entry}
use Rattle.xti_model.specs.declared.script.Line.{Line}
use Rattle.xti_model.specs.History.{unfinished_from}
use Rattle.xti_model.specs.Resolve.{begun, is_begin}
use Rattle.xti_model.specs.Robin.{is_through}
use Rattle.xti_model.specs.Complete.{Follows, IsHistoryOf, is_setup}
use Rattle.xti_model.proofs.GoingOn.{own-alone}
use Rattle.xti_model.specs.Following.{IsFollowed}
use Rattle.xti_hall_rule.specs.declared.setting.Setting.{Setting}
use Rattle.xti_hall_rule.specs.declared.view.View.{View}
use Rattle.xti_hall_rule.specs.Histories.{own, Legal}
use Rattle.xti_hall_rule.specs.Rule.{newcomer}
use Rattle.xti_hall_rule.specs.Steps.{giver}
use Rattle.xti_gather.specs.Cells.{whole}
use Rattle.xti_hall.specs.Seats.{SeatView, IsStanding, IsNewcomerOf, Looks}
use Rattle.xti_hall.specs.Words.{IsSameSeat}
use Rattle.xti_calls.specs.declared.shared.Xti.{Xti}
use Rattle.xti_calls.specs.Library.{IsOf, providers_of}
use Rattle.xti_replay.specs.declared.workers.Worker.{Worker}
use Rattle.xti_replay.specs.Progress.{Told, AreFresh}
use Rattle.xti_replay.proofs.Learning.{knows-still}
use Rattle.xti_threads.specs.Working.{AfterSetup, IsJob}
use Rattle.xti_threads.specs.Setting.{HasSetUp, SetsUp}
use Rattle.xti_threads.specs.declared.working.Job.{Job}
use Rattle.xti_threads.specs.Starting.{EachFrom, AllBack, AllJobs, AllTold}
use Rattle.xti_threads.specs.Meeting.{AllPlayed, IsSetUp, Leads, Before}
use Rattle.xti_threads.proofs.Owned.{follows-same, own-again, own-setup, setup-only, history-alone}
use Rattle.xti_threads.proofs.Threads.{from_map, from_index}
use Rattle.xti_threads.proofs.Between.{no-part}

-- what is told of a worker stays while its own entries do
told-still : (lines : List Line) (past later : List Entry) (number : ℕ) (w : Worker) → own number later ≡ own number past → Told lines past number w → Told lines later number w
told-still lines past later number w same t = record {
  places = t.places;
  count = t.count ∙ ap length (sym begun-same);
  names = knows-still lines past later number w.names begun-same t.names;
  part = t.part ∙ sym (ap (unfinished_from None None) same);
}
  where
    begun-same : begun later number ≡ begun past number
    begun-same = ap (filter (λ (e : Entry). is_begin e.act)) same

-- the workers but 0 have begun no line after the setup
pub told-after : (lines : List Line) (past : List Entry) (ws : List Worker) → list_all is_setup past ≡ true → EachFrom (Told lines []) 1 ws → AllTold lines past ws
told-after lines past ws alone all = from_map (Told lines []) (Told lines past) 1 ws (λ k w le t. told-still lines [] past k w (own-alone past k le alone) t) all

-- the first of the fresh workers is worker 0
pub fresh-first : (lines : List Line) (ws : List Worker) (w : Worker) → AreFresh lines ws → w ≡ slice_index_or ws 0 w → Told lines [] 0 w
fresh-first lines ws w f is = subst (Told lines [] 0) (sym is) (f.each 0 w (omega (arith, f.many))).told

-- of whose calls none is part way
pub fresh-whole : (lines : List Line) (ws : List Worker) (w : Worker) → AreFresh lines ws → w ≡ slice_index_or ws 0 w → w.part ≡ None
fresh-whole lines ws w f is = no-part w.part (fresh-first lines ws w f is).part

-- and the others follow
pub fresh-others : (lines : List Line) (ws : List Worker) → AreFresh lines ws → EachFrom (Told lines []) 1 (remove ws 0)
fresh-others lines [] f = tt
fresh-others lines (w ∷ ws) f = from_index (Told lines []) 1 ws (λ k d lt. subst (λ (n : ℕ). Told lines [] n (slice_index_or ws k d)) (let e : suc k ≡ 1 + k = omega arith in e) (f.each (suc k) d (omega (arith, lt))).told)

-- main's seat before the first call
pub sets-fresh : (x : Xti) (lines : List Line) (s : SeatView) (w : Worker) → IsOf x s → s.view ≡ newcomer (whole (providers_of x) true) → Told lines [] 0 w → SetsUp x lines s w
sets-fresh x lines s w of_x new told = record {
  seat = record {
    of_x = of_x;
    number_is = ap (λ (v : View). v.number) new;
    next_is = ap (λ (v : View). v.next) new;
    standing = subst IsStanding (sym new) (record { numbered = refl; below = omega arith; legal = tt; bytes = tt; mine = refl; spare = λ k le. refl });
    follows = subst (λ (v : View). IsFollowed lines v.mine 0) (sym new) (record { follows = refl; settled = tt });
  };
  told = subst (λ (v : View). Told lines v.mine 0 w) (sym new) told;
}

module _ {x : Xti} {lines : List Line} {s : SeatView} where
  -- after the setup all that main's seat has seen is its own
  pub set-up-ends : {w : Worker} (ws : List Worker) → SetsUp x lines s w → is_through lines s.view.mine 0 ≡ true → EachFrom (Told lines []) 1 ws
      → AfterSetup lines s.view.seen w × IsSetUp lines s.view.seen × Before x s.view.seen 1 s × AllTold lines s.view.seen ws
  set-up-ends {w} ws k through all = (
    record { told = subst (λ h. Told lines h 0 w) (sym same) k.told; finished = finished; alone = alone },
    record { alone = alone; follows = subst (λ h. Follows h lines 0) (sym same) k.seat.follows.follows; finished = finished },
    record { of_x = k.seat.of_x; next_is = k.seat.next_is; number_is = k.seat.number_is; mine = sym own-mine; seen = refl; standing = k.seat.standing },
    told-after lines s.view.seen ws alone all,
  )
    where
      alone : list_all is_setup s.view.seen ≡ true
      alone = setup-only s.view.seen (λ n le. k.seat.standing.spare n (subst (λ m. m ≤ n) (sym k.seat.next_is) le))

      own-mine : own 0 s.view.seen ≡ s.view.mine
      own-mine = subst (λ n. own n s.view.seen ≡ s.view.mine) k.seat.number_is k.seat.standing.mine

      same : s.view.seen ≡ s.view.mine
      same = sym (own-setup s.view.seen alone) ∙ own-mine

      finished : is_through lines s.view.seen 0 ≡ true
      finished = subst (λ h. is_through lines h 0 ≡ true) (sym same) through

  -- the history where worker 0 isn't finished
  pub set-up-stops : (v : View) → HasSetUp x lines s → Looks s.view v → IsStanding v → IsHistoryOf (providers_of x) lines v.seen
  set-up-stops v k looks standing = history-alone (providers_of x) lines v.seen
      (subst (λ (z : Setting). Legal z v.seen) (looks.setting ∙ k.of_x.1) standing.legal)
      (follows-same lines v.seen s.view.mine 0 (here ∙ again) (here ∙ again) k.follows.follows)
      (λ n le. standing.spare n (subst (λ m. m ≤ n) (sym (looks.next ∙ k.next_is)) le))
    where
      here : own 0 v.seen ≡ s.view.mine
      here = subst (λ n. own n v.seen ≡ v.mine) (looks.number ∙ k.number_is) standing.mine ∙ looks.mine

      again : s.view.mine ≡ own 0 s.view.mine
      again = sym (subst (λ es. own 0 es ≡ es) (subst (λ n. own n s.view.seen ≡ s.view.mine) k.number_is k.standing.mine) (own-again s.view.seen 0))

-- main's seat after a split
pub before-split : {x : Xti} {setup : List Entry} (next next' : ℕ) (s s' : SeatView) → Before x setup next s → IsSameSeat s s' → s'.view ≡ giver s.view → next' ≡ next + 1 → Before x setup next' s'
before-split next next' s s' b same v n = record {
  of_x = (same.0 ∙ b.of_x.0, ap (λ (z : View). z.setting) v ∙ b.of_x.1);
  next_is = ap (λ (z : View). z.next) v ∙ (ap (λ (z : ℕ). z + 1) b.next_is ∙ sym n);
  number_is = ap (λ (z : View). z.number) v ∙ b.number_is;
  mine = ap (λ (z : View). z.mine) v ∙ b.mine;
  seen = ap (λ (z : View). z.seen) v ∙ b.seen;
  standing = subst IsStanding (sym v) (record {
    numbered = b.standing.numbered;
    below = omega (arith, b.standing.below);
    legal = b.standing.legal;
    bytes = b.standing.bytes;
    mine = b.standing.mine;
    spare = λ k le. b.standing.spare k (omega (arith, le));
  });
}

-- the seat that was cut off, with its worker
pub new-job : {x : Xti} {lines : List Line} {setup : List Entry} (next : ℕ) (s t : SeatView) (w : Worker) → Before x setup next s → t.hall ≡ s.hall → IsNewcomerOf s.view t.view → IsStanding t.view → 0 < next → next < WORKERS → Told lines setup next w
    → IsJob x lines setup next (record { seat = t; worker = w })
new-job next s t w b h n standing pos small told = record {
  of_x = (h ∙ b.of_x.0, n.setting ∙ b.of_x.1);
  number_is = n.number ∙ b.next_is;
  other = pos;
  small = small;
  standing = standing;
  seen = n.seen ∙ b.seen;
  mine = n.mine;
  told = told;
}

-- main's seat rests
pub before-rests : {x : Xti} {setup : List Entry} {next : ℕ} (s s' : SeatView) → Before x setup next s → IsSameSeat s s' → Looks s.view s'.view → IsStanding s'.view → Leads x setup next s'
before-rests s s' b same l standing = record {
  of_x = (same.0 ∙ b.of_x.0, l.setting ∙ b.of_x.1);
  next_is = l.next ∙ b.next_is;
  number_is = l.number ∙ b.number_is;
  mine = l.mine ∙ b.mine;
  begins = subst (λ (h : List Entry). IsPrefix h s'.view.seen) b.seen l.seen;
  standing = standing;
}

-- all others have come back
pub all-played : {E : Type 0} {x : Xti} {lines : List Line} {past : List Entry} {main : SeatView} (n : ℕ) (jobs : Vec Job Global) (r : Result (Vec SeatView Global) E) → n < WORKERS → vec_len jobs ≡ n → IsSetUp lines past → Leads x past (n + 1) main → AllJobs x lines past jobs.items
    → IfOk r (λ v. vec_len v ≡ vec_len jobs) → IfOk r (λ v. (setup : List Entry) → AllJobs x lines setup jobs.items → AllBack x lines setup v.items) → IfOk r (AllPlayed x lines main)
all-played {E} {x} {lines} {past} {main} n jobs (Ok v) many e u l all same back = record {
  many = omega (arith, many, same, e);
  past = past;
  set_up = u;
  leads = subst (λ (k : ℕ). Leads x past (k + 1) main) (sym (same ∙ e)) l;
  back = back past all;
}
all-played n jobs (Err err) many e u l all same back = tt

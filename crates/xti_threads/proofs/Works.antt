-- A worker's calls by its seat are those of its lines.
use Rattle.std.proofs.Common.{◌≡◌, ◌≢◌, ℕ, true, List, [], ◌∷◌, ◌++◌, Some, None, refl, sym, ap, ◌∙◌, subst, arith, append_assoc, inr}
use Rattle.std.specs.List.{AllByRecursion}
use Rattle.std.proofs.lemmas.List.{append-nil}
use mathlib.Core.List.{IsPrefix}
use Rattle.xti_model.specs.declared.call.Call.{Call}
use Rattle.xti_model.specs.declared.entry.Go.TheVariants as go
use Rattle.xti_model.specs.declared.entry.Entry.{Entry}
use Rattle.xti_model.specs.declared.entry.Reply.{Reply}
use Rattle.xti_model.specs.declared.script.Line.{Line}
use Rattle.xti_model.specs.History.{unfinished_from}
use Rattle.xti_model.specs.Robin.{is_through}
use Rattle.xti_model.proofs.Appending.{own-append}
use Rattle.xti_model.specs.Following.{IsFollowed}
use Rattle.xti_model.proofs.Phases.{through-same}
use Rattle.xti_hall_rule.specs.declared.view.View.{View}
use Rattle.xti_hall_rule.specs.Histories.{own}
use Rattle.xti_hall.specs.Seats.{SeatView, IsStanding, Looks}
use Rattle.xti_hall.specs.Words.{IsSameSeat}
use Rattle.xti_calls.specs.declared.shared.Xti.{Xti}
use Rattle.xti_calls.specs.declared.calling.Halt.{Halt}
use Rattle.xti_calls.specs.declared.calling.Halt.TheVariants.{OutOfMemory, Stalled}
use Rattle.xti_calls.specs.Calling.{Answered, Halted}
use Rattle.xti_calls.specs.Library.{IsOf, GoesOn}
use Rattle.xti_replay.specs.declared.workers.Worker.{Worker}
use Rattle.xti_replay.specs.Progress.{Told, IsNext}
use Rattle.xti_threads.specs.declared.working.Job.{Job}
use Rattle.xti_threads.specs.Working.{AfterSetup, CameBack, HasAnswer, HasSteps, IsJob, Works}
use Rattle.xti_threads.proofs.OwnEntries.{IsBy, own-none-of, own-setup, mine-by, told-others}
use Rattle.xti_threads.proofs.Between.{Between, between-follows, between-told, no-part}

pub prefix-trans : (xs ys zs : List Entry) → IsPrefix xs ys → IsPrefix ys zs → IsPrefix xs zs
prefix-trans xs ys zs a b = (a.0 ++ b.0, sym (append_assoc xs a.0 b.0) ∙ (ap (λ (l : List Entry). l ++ b.0) a.1 ∙ b.1))

-- the seat's library is the same later
pub of-later : (x : Xti) (s s' : SeatView) → IsOf x s → GoesOn s s' → IsOf x s'
of-later x s s' o on = (on.0.0 ∙ o.0, on.1.setting ∙ o.1)

-- a worker between two of its lines
pub works-between : {x : Xti} {lines : List Line} {setup : List Entry} {n : ℕ} {s : SeatView} {w w0 : Worker} → AfterSetup lines setup w0 → Works x lines setup n s w → w.part ≡ None → Between lines setup n s.view w w0
works-between {x} {lines} {setup} {n} {s} {w} {w0} z k whole = record {
  others = own-setup n setup k.other z.alone;
  number = k.back.number_is;
  standing = k.back.standing;
  may = record { setup = inr through; within = λ l. k.small };
  follows = k.back.follows;
  told = k.told;
  setup_told = told-others lines setup s.view.mine n 0 w0 other mine z.told;
  whole = whole;
}
  where
    other : n ≢ 0
    other e = let p = k.other in omega (arith, e)

    mine : AllByRecursion (IsBy n) s.view.mine
    mine = mine-by s.view n k.back.number_is k.back.standing

    through : is_through lines (setup ++ s.view.mine) 0 ≡ true
    through = through-same lines setup (setup ++ s.view.mine) 0 (own-append setup s.view.mine 0 ∙ (ap (λ (es : List Entry). own 0 setup ++ es) (own-none-of n 0 s.view.mine other mine) ∙ append-nil (own 0 setup))) ∙ z.finished

-- the steps of a call that was answered, or stopped
pub steps-answered : {v v' : View} {c : Call} {reply : Reply} → Answered v c go.Begin v' reply → HasSteps v c v'
steps-answered a = record { steps = a.parts ++ a.last ∷ []; mine = a.mine; are = a.steps }

pub steps-halted : {v v' : View} {c : Call} (h : Halt) → Halted v c go.Begin v' h → HasSteps v c v'
steps-halted (OutOfMemory taken) m = record { steps = m.parts; mine = m.mine; are = m.steps }
steps-halted (Stalled taken stall) m = record { steps = m.stopped.parts; mine = m.stopped.mine; are = m.stopped.steps }

module _ {x : Xti} {lines : List Line} {setup : List Entry} {n : ℕ} {s : SeatView} {w w0 : Worker} (k : Works x lines setup n s w) (b : Between lines setup n s.view w w0) (c : Call) (next : IsNext lines (setup ++ s.view.mine) n (Some c)) (s' : SeatView) (on : GoesOn s s') (standing : IsStanding s'.view) where
  -- the seat after some steps of the call of its worker's next line
  pub works-back : HasSteps s.view c s'.view → CameBack x lines setup n s'
  works-back m = record {
    of_x = of-later x s s' k.back.of_x on;
    number_is = on.1.number ∙ k.back.number_is;
    standing = standing;
    seen = prefix-trans setup s.view.seen s'.view.seen k.back.seen on.1.seen;
    follows = between-follows b c s'.view m.steps next standing on.1 m.mine m.are;
  }

  -- and its worker, where the call was answered
  pub works-on : (new : Worker) → HasAnswer lines s.view c s'.view w new → Works x lines setup n s' new
  works-on new m = record {
    back = works-back (steps-answered m.answered);
    other = k.other;
    small = k.small;
    told = between-told b c s'.view new m.reply next standing on.1 m.answered m.begun;
  }

-- a job has its first line before it
pub job-works : {x : Xti} {lines : List Line} {setup : List Entry} {n : ℕ} {j : Job} {w0 : Worker} → AfterSetup lines setup w0 → IsJob x lines setup n j → Works x lines setup n j.seat j.worker
job-works {x} {lines} {setup} {n} {j} {w0} z k = record {
  back = record {
    of_x = k.of_x;
    number_is = k.number_is;
    standing = k.standing;
    seen = ([], append-nil setup ∙ sym k.seen);
    follows = subst (λ (l : List Entry). IsFollowed lines l n) (sym nothing) first;
  };
  other = k.other;
  small = k.small;
  told = subst (λ (l : List Entry). Told lines l n j.worker) (sym nothing) k.told;
}
  where
    nothing : setup ++ j.seat.view.mine ≡ setup
    nothing = ap (λ (l : List Entry). setup ++ l) k.mine ∙ append-nil setup

    none : own n setup ≡ []
    none = own-setup n setup k.other z.alone

    first : IsFollowed lines setup n
    first = record { follows = rw none refl; settled = rw none tt }

pub job-whole : {x : Xti} {lines : List Line} {setup : List Entry} {n : ℕ} {j : Job} {w0 : Worker} → AfterSetup lines setup w0 → IsJob x lines setup n j → j.worker.part ≡ None
job-whole {x} {lines} {setup} {n} {j} {w0} z k = no-part j.worker.part (k.told.part ∙ ap (unfinished_from None None) (own-setup n setup k.other z.alone))

-- a look at the history leaves a seat that came back so
pub rest-back : {x : Xti} {lines : List Line} {setup : List Entry} {n : ℕ} (s s' : SeatView) → CameBack x lines setup n s → IsSameSeat s s' → Looks s.view s'.view → IsStanding s'.view → CameBack x lines setup n s'
rest-back {x} {lines} {setup} {n} s s' b same l standing = record {
  of_x = (same.0 ∙ b.of_x.0, l.setting ∙ b.of_x.1);
  number_is = l.number ∙ b.number_is;
  standing = standing;
  seen = prefix-trans setup s.view.seen s'.view.seen b.seen l.seen;
  follows = subst (λ (m : List Entry). IsFollowed lines (setup ++ m) n) (sym l.mine) b.follows;
}

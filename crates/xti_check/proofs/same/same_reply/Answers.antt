use Rattle.std.proofs.Common.{◌≡◌, ◌∙◌, ℕ, Option, refl, sym}
use Rattle.xti_base.specs.contracts.kinds.Event as event
use Rattle.xti_base.specs.contracts.kinds.State as state
use Rattle.xti_base.specs.declared.kinds.Event.{Event}
use Rattle.xti_base.specs.declared.kinds.State.{State}
use Rattle.xti_base.specs.declared.limit.Info.{Info}
use Rattle.xti_model.specs.declared.entry.Reply.TheVariants.{Limits, Seen, Sent, Stands}
use denote.Enum.Bare.{sameb}
use Rattle.xti_check.proofs.Sameness.{tells-made, tells-number, tells-option, tells-variant}
use Rattle.xti_check.proofs.same.same_reply.Goals as goal

sent-back : (a b : ℕ) → Sent a ≡ Sent b → a ≡ b
sent-back a b e = cc

seen-back : (a b : Option Event) → Seen a ≡ Seen b → a ≡ b
seen-back a b e = cc

stands-back : (a b : State) → Stands a ≡ Stands b → a ≡ b
stands-back a b e = cc

limits-back : (a b : Info) → Limits a ≡ Limits b → a ≡ b
limits-back a b e = cc

pub returns-in-Plain-Plain : goal.returns-in-Plain-Plain
returns-in-Plain-Plain c = c.in-Plain-Plain.is-0 ∙ sym c.in-Plain-Plain.is-1

pub returns-in-Sent-Sent : goal.returns-in-Sent-Sent
returns-in-Sent-Sent c =
    let i = c.in-Sent-Sent in
    tells-made Sent sent-back _ _ i.n i.other_n _ i.is-0 i.is-1 (tells-number i.n i.other_n _ refl)

pub returns-in-Seen-Seen : goal.returns-in-Seen-Seen
returns-in-Seen-Seen c =
    let i = c.in-Seen-Seen in
    tells-made Seen seen-back _ _ i.event i.other_event _ i.is-0 i.is-1
    (tells-option (sameb event.the_type) (λ x y. tells-variant event.the_type x y _ refl tt) i.event i.other_event _ c.eq-in-Seen-Seen.ensures)

pub returns-in-Stands-Stands : goal.returns-in-Stands-Stands
returns-in-Stands-Stands c =
    let i = c.in-Stands-Stands in
    tells-made Stands stands-back _ _ i.state i.other_state _ i.is-0 i.is-1 (tells-variant state.the_type i.state i.other_state _ c.eq-in-Stands-Stands.ensures tt)

pub returns-in-Limits-Limits : goal.returns-in-Limits-Limits
returns-in-Limits-Limits c =
    let i = c.in-Limits-Limits in
    tells-made Limits limits-back _ _ i.info i.other_info _ i.is-0 i.is-1 c.same_info.ensures

pub returns-in-Refused-default : goal.returns-in-Refused-default
returns-in-Refused-default c = c.same_error.ensures

pub returns-in-Got-default : goal.returns-in-Got-default
returns-in-Got-default c = c.same_received.ensures

pub returns-in-Connected-default : goal.returns-in-Connected-default
returns-in-Connected-default c = c.same_connection_news.ensures

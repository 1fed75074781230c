use Rattle.std.proofs.Common.{◌≡◌, ◌∙◌, ℕ, Bool, true, cond, List, Some, refl, sym, ap}
use Rattle.std.specs.List.{list_any}
use Rattle.std.proofs.lemmas.Result.{IfOk-from_err}
use Rattle.xti_model.specs.declared.entry.Outcome.TheVariants.{Done}
use Rattle.xti_model.specs.declared.entry.Reply.{Reply}
use Rattle.xti_model.specs.declared.entry.Reply.TheVariants.{Overflow}
use Rattle.xti_model.specs.Calls.Datagrams as Datagrams
use Rattle.xti_model.specs.Plan.{field, is_too_long, trimmed}
use Rattle.xti_model.specs.Step.{made}
use Rattle.xti_end.specs.Held.{Held, alone, parts}
use Rattle.xti_end.proofs.Rows.{datagram-kept, datagram-lost, first-long, got-is, none-long, open-is, second-long}
use Rattle.xti_end.proofs.Rooms.{after_change, as_before, on_any_err, same_room}
use Rattle.xti_end.proofs.endpoint.Endpoint.receive_or_lose.Goals as goal
use Rattle.xti_end.proofs.endpoint.Endpoint.receive_or_lose.Goals.{then-is_too_long-via-then-is_too_long, then-is_too_long-via-else-is_too_long+then-is_too_long-2, then-more, else-more}

pub take_bytes-requires-clause-open : goal.take_bytes-requires-clause-open
take_bytes-requires-clause-open c = open-is c.args.p.now c.args.fd.0 c.args.self.now c.requires.«open»

pub returns-then-is_too_long-clause-step : goal.returns-then-is_too_long-clause-step
returns-then-is_too_long-clause-step c = λ sizes.
    let p = c.args.p.now in
    let h = c.args.self.now in
    let fd = c.args.fd.0 in
    let d = Datagrams.told (parts h) in
    let source = ap (λ (x : List ℕ). is_too_long (field x c.args.amax)) (sym c.source-source.ensures) ∙ sym c.is_too_long.ensures in
    let options = ap (λ (x : List ℕ). is_too_long (field x c.args.omax)) (sym c.options-options.ensures) in
    let long : list_any is_too_long (Datagrams.fields d c.args.amax c.args.omax) ≡ true =
    elim c.then-is_too_long.branch [
      | then-is_too_long-via-then-is_too_long w ↦
          first-long (field d.source c.args.amax) (field d.options c.args.omax) (source ∙ w.if-is_too_long.true)
      | then-is_too_long-via-else-is_too_long+then-is_too_long-2 w ↦
          second-long (field d.source c.args.amax) (field d.options c.args.omax)
          (options ∙ (sym w.is_too_long-else-is_too_long.ensures ∙ w.if-is_too_long-2.true))
    ] in
    c.done.ensures ∙
    (ap (λ (x : Held). Some (made p fd (Done (Overflow (record { 0 = 0 }))) (alone x))) c.drop_datagram.ensures ∙
    datagram-lost p h fd sizes c.args.max c.args.amax c.args.omax c.requires.«open» long)

pub returns-then-is_too_long-clause-still : goal.returns-then-is_too_long-clause-still
returns-then-is_too_long-clause-still c = λ none. let no = sym c.done.ensures ∙ none in cc no

pub returns-then-is_too_long-clause-room : goal.returns-then-is_too_long-clause-room
returns-then-is_too_long-clause-room c = after_change _ c.drop_datagram.ensures

pub returns-in_err-addr-clause-step : goal.returns-in_err-addr-clause-step
returns-in_err-addr-clause-step c = IfOk-from_err _ _ c.from_residual.ensures.0

pub returns-in_err-addr-clause-still : goal.returns-in_err-addr-clause-still
returns-in_err-addr-clause-still c = IfOk-from_err _ _ c.from_residual.ensures.0

pub returns-in_err-addr-clause-room : goal.returns-in_err-addr-clause-room
returns-in_err-addr-clause-room c = same_room _

pub returns-in_err-addr-clause-err : goal.returns-in_err-addr-clause-err
returns-in_err-addr-clause-err c = on_any_err _ refl

pub returns-in-Err-clause-room : goal.returns-in-Err-clause-room
returns-in-Err-clause-room c = same_room _

pub returns-in-Err-clause-err : goal.returns-in-Err-clause-err
returns-in-Err-clause-err c = refl

pub returns-in-Err-take_bytes-clause-room : goal.returns-in-Err-take_bytes-clause-room
returns-in-Err-take_bytes-clause-room c = as_before c.in-Err-take_bytes.ensures.err

pub returns-in-Err-take_bytes-clause-err : goal.returns-in-Err-take_bytes-clause-err
returns-in-Err-take_bytes-clause-err c = c.in-Err-take_bytes.ensures.err

pub returns-clause-step : goal.returns-clause-step
returns-clause-step c = λ sizes.
    let p = c.args.p.now in
    let h = c.args.self.now in
    let fd = c.args.fd.0 in
    let d = Datagrams.told (parts h) in
    let made-of = c.in-Ok-take_bytes.made in
    let source = ap (λ (x : List ℕ). is_too_long (field x c.args.amax)) (sym c.source-source.ensures) ∙ (sym c.is_too_long.ensures ∙ c.if-is_too_long.false) in
    let options = ap (λ (x : List ℕ). is_too_long (field x c.args.omax)) (sym c.options-options.ensures) ∙ (sym c.is_too_long-else-is_too_long.ensures ∙ c.if-is_too_long-2.false) in
    let flags : c.if-more.flags ≡ cond made-of.more 1 0 =
    elim c.if-more.branch [
      | then-more w ↦ w.flags-is ∙ sym (ap (λ (t : Bool). cond t 1 0) w.if-more.true)
      | else-more w ↦ w.flags-is ∙ sym (ap (λ (t : Bool). cond t 1 0) w.if-more.false)
    ] in
    let reply = got-is (parts h) c.args.max c.args.amax c.args.omax c.in_ok-addr.addr c.in-Ok.made made-of.bytes made-of.more c.if-more.flags
    (c.in_ok-addr.ensures.copy ∙ ap (λ (x : List ℕ). trimmed x c.args.amax) c.source-source.ensures)
    (c.in-Ok.ensures.copy ∙ ap (λ (x : List ℕ). trimmed x c.args.omax) c.options-options.ensures)
    c.in-Ok-take_bytes.ensures.bytes c.in-Ok-take_bytes.ensures.more flags in
    c.done-2.ensures ∙
    (ap (λ (r : Reply). Some (made p fd (Done r) (alone c.take_bytes.new.self))) reply ∙
    (ap (λ (x : Held). Some (made p fd (Done (Datagrams.got d c.args.max c.args.amax c.args.omax)) (alone x))) c.in-Ok-take_bytes.ensures.left ∙
    datagram-kept p h fd sizes c.args.max c.args.amax c.args.omax c.requires.«open»
    (none-long (field d.source c.args.amax) (field d.options c.args.omax) source options)))

pub returns-clause-still : goal.returns-clause-still
returns-clause-still c = λ none. let no = sym c.done-2.ensures ∙ none in cc no

pub returns-clause-room : goal.returns-clause-room
returns-clause-room c = after_change _ c.in-Ok-take_bytes.ensures.left

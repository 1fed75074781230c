use Rattle.std.proofs.Common.{◌≡◌, ℕ, Bool, true, false, ◌&&◌, List, Option, None, Some, sym, ap, refl, ◌∙◌}
use Rattle.std.specs.Prelude.{not, option_map}
use Rattle.std.proofs.lemmas.Result.{IfOk-from_err}
use Rattle.xti_base.specs.declared.kinds.Prov.{Prov}
use Rattle.xti_model.specs.declared.entry.Reply.TheVariants.{Got}
use Rattle.xti_model.specs.declared.profile.Providers.{Providers}
use Rattle.xti_model.specs.Calls.Receive as Receive
use Rattle.xti_model.specs.Endpoint.{Endpoint}
use Rattle.xti_model.specs.Events.{some_wait}
use Rattle.xti_model.specs.Provider.{is_stream}
use Rattle.xti_model.specs.Symbols as waiting
use Rattle.xti_end.specs.Held.{Held, parts, parts_of, with_parts, without_expedited, without_normal}
use Rattle.xti_end.proofs.Rooms.{on_any_err, stays_open, two_changes}
use Rattle.xti_end.proofs.endpoint.Endpoint.receive_data.Goals as goal
use Rattle.xti_end.proofs.endpoint.Endpoint.receive_data.Goals.{then-not-ended, else-not-ended}

and-true : (b : Bool) → b ≡ (b && true)
and-true true = refl
and-true false = refl

-- an expedited message goes on until its end
expedited-on : (p : Providers) (max : ℕ) (e : Endpoint) (ended : Bool) → ended ≡ waiting.ended max e.expedited → not ended ≡ Receive.goes_on p true max e
expedited-on p max e ended n = ap not n ∙ and-true (not (waiting.ended max e.expedited))

-- what is told of it, and what is left
expedited-got : (p : Providers) (max : ℕ) (e : Endpoint) (bytes : List ℕ) (flags : ℕ) (ended : Bool) → some_wait e.expedited ≡ true → bytes ≡ waiting.front max e.expedited → ended ≡ waiting.ended max e.expedited
    → flags ≡ Receive.flags true (not ended) → Got bytes flags ≡ Receive.got p (some_wait e.expedited) max e
expedited-got p max e bytes flags ended w b n f =
    let word : flags ≡ Receive.flags true (Receive.goes_on p true max e) = f ∙ ap (Receive.flags true) (expedited-on p max e ended n) in
    let whole : Got bytes flags ≡ Receive.got p true max e = λ k. Got (b k) (word k) in
    whole ∙ ap (λ (x : Bool). Receive.got p x max e) (sym w)

expedited-left : (p : Providers) (max : ℕ) (o : Option Endpoint) (on : Bool) → some_wait (parts_of o).expedited ≡ true → on ≡ Receive.goes_on p true max (parts_of o)
    → option_map (λ (e : Endpoint). record e { mid_expedited = on }) (option_map (without_expedited max) o) ≡ option_map (Receive.received p max) o
expedited-left p max None on w g = refl
expedited-left p max (Some e) on w g = rw (w, g) refl

-- a normal message goes on until its end, but in a stream
normal-on : (p : Providers) (max : ℕ) (e : Endpoint) (prov : Prov) (more stream ended : Bool) → ended ≡ waiting.ended max e.normal → ended ≡ false → prov ≡ e.prov → stream ≡ is_stream p prov → more ≡ not stream
    → more ≡ Receive.goes_on p false max e
normal-on p max e prov more stream ended n f v s m =
    let goes : waiting.ended max e.normal ≡ false = sym n ∙ f in
    m ∙ (ap not (s ∙ ap (is_stream p) v) ∙ rw goes refl)

normal-over : (p : Providers) (max : ℕ) (e : Endpoint) (more ended : Bool) → ended ≡ waiting.ended max e.normal → ended ≡ true → more ≡ not ended → more ≡ Receive.goes_on p false max e
normal-over p max e more ended n f m =
    let over : waiting.ended max e.normal ≡ true = sym n ∙ f in
    m ∙ (ap not f ∙ rw over refl)

normal-got : (p : Providers) (max : ℕ) (e : Endpoint) (bytes : List ℕ) (flags : ℕ) (more : Bool) → some_wait e.expedited ≡ false → bytes ≡ waiting.front max e.normal → more ≡ Receive.goes_on p false max e
    → flags ≡ Receive.flags false more → Got bytes flags ≡ Receive.got p (some_wait e.expedited) max e
normal-got p max e bytes flags more w b m f =
    let word : flags ≡ Receive.flags false (Receive.goes_on p false max e) = f ∙ ap (Receive.flags false) m in
    let whole : Got bytes flags ≡ Receive.got p false max e = λ k. Got (b k) (word k) in
    whole ∙ ap (λ (x : Bool). Receive.got p x max e) (sym w)

normal-left : (p : Providers) (max : ℕ) (o : Option Endpoint) → some_wait (parts_of o).expedited ≡ false → option_map (without_normal max) o ≡ option_map (Receive.received p max) o
normal-left p max None w = refl
normal-left p max (Some e) w = rw w refl

prov-stays : (max : ℕ) (old new : Held) → new ≡ with_parts (without_normal max) old → (parts new).prov ≡ (parts old).prov
prov-stays max old new e = ap (λ (x : Held). (parts x).prov) e ∙ by old.body
  where
    by : (o : Option Endpoint) → (parts_of (option_map (without_normal max) o)).prov ≡ (parts_of o).prov
    by None = refl
    by (Some x) = refl

pub take_expedited-requires : goal.take_expedited-requires
take_expedited-requires c = c.requires

pub take_normal-requires : goal.take_normal-requires
take_normal-requires c = c.requires

pub returns-in_err-bytes-clause-reply : goal.returns-in_err-bytes-clause-reply
returns-in_err-bytes-clause-reply c = IfOk-from_err _ _ c.from_residual.ensures.0

pub returns-in_err-bytes-clause-left : goal.returns-in_err-bytes-clause-left
returns-in_err-bytes-clause-left c = IfOk-from_err _ _ c.from_residual.ensures.0

pub returns-in_err-bytes-clause-err : goal.returns-in_err-bytes-clause-err
returns-in_err-bytes-clause-err c = on_any_err _ c.in_err-bytes.ensures.err

pub returns-in_err-bytes-2-clause-reply : goal.returns-in_err-bytes-2-clause-reply
returns-in_err-bytes-2-clause-reply c = IfOk-from_err _ _ c.from_residual-in_err-bytes-2.ensures.0

pub returns-in_err-bytes-2-clause-left : goal.returns-in_err-bytes-2-clause-left
returns-in_err-bytes-2-clause-left c = IfOk-from_err _ _ c.from_residual-in_err-bytes-2.ensures.0

pub returns-in_err-bytes-2-clause-err : goal.returns-in_err-bytes-2-clause-err
returns-in_err-bytes-2-clause-err c = on_any_err _ c.in_err-bytes-2.ensures.err

pub set_mid_expedited-requires : goal.set_mid_expedited-requires
set_mid_expedited-requires c = stays_open c.args.self.now c.take_expedited.new.self _ c.in_ok-bytes.ensures.left c.requires

pub prov-requires : goal.prov-requires
prov-requires c = stays_open c.args.self.now c.take_normal.new.self _ c.in_ok-bytes-2.ensures.left c.requires

pub returns-then-has_expedited-clause-reply : goal.returns-then-has_expedited-clause-reply
returns-then-has_expedited-clause-reply c =
    expedited-got c.args.p.now c.args.max (parts c.args.self.now) c.in_ok-bytes.field-0.bytes c.flags-flags.result c.in_ok-bytes.field-0.ended (sym c.has_expedited.ensures ∙ c.if-has_expedited.true)
    c.in_ok-bytes.ensures.bytes c.in_ok-bytes.ensures.ended c.flags-flags.ensures

pub returns-then-has_expedited-clause-left : goal.returns-then-has_expedited-clause-left
returns-then-has_expedited-clause-left c =
    let p = c.args.p.now in
    let h = c.args.self.now in
    two_changes h c.take_expedited.new.self c.set_mid_expedited.new.self (without_expedited c.args.max) (λ (e : Endpoint). record e { mid_expedited = not c.in_ok-bytes.field-0.ended })
    (Receive.received p c.args.max) c.in_ok-bytes.ensures.left c.set_mid_expedited.ensures
    (expedited-left p c.args.max h.body (not c.in_ok-bytes.field-0.ended) (sym c.has_expedited.ensures ∙ c.if-has_expedited.true)
    (expedited-on p c.args.max (parts h) c.in_ok-bytes.field-0.ended c.in_ok-bytes.ensures.ended))

pub returns-clause-reply : goal.returns-clause-reply
returns-clause-reply c =
    let p = c.args.p.now in
    let h = c.args.self.now in
    let more : c.if-not-ended.more ≡ Receive.goes_on p false c.args.max (parts h) =
    elim c.if-not-ended.branch [
      | then-not-ended w ↦
          normal-on p c.args.max (parts h) w.prov.result c.if-not-ended.more w.is_stream.result c.in_ok-bytes-2.field-0.ended c.in_ok-bytes-2.ensures.ended w.if-not-ended.true
          (w.prov.ensures ∙ prov-stays c.args.max h c.take_normal.new.self c.in_ok-bytes-2.ensures.left) w.is_stream.ensures w.more-is
      | else-not-ended w ↦ normal-over p c.args.max (parts h) c.if-not-ended.more c.in_ok-bytes-2.field-0.ended c.in_ok-bytes-2.ensures.ended w.if-not-ended.false w.more-is
    ] in
    normal-got p c.args.max (parts h) c.in_ok-bytes-2.field-0.bytes c.flags-flags-2.result c.if-not-ended.more (sym c.has_expedited.ensures ∙ c.if-has_expedited.false)
    c.in_ok-bytes-2.ensures.bytes more c.flags-flags-2.ensures

pub returns-clause-left : goal.returns-clause-left
returns-clause-left c =
    let h = c.args.self.now in
    c.in_ok-bytes-2.ensures.left
    ∙ ap (λ (o : Option Endpoint). record h { body = o }) (normal-left c.args.p.now c.args.max h.body (sym c.has_expedited.ensures ∙ c.if-has_expedited.false))

-- Opening both endpoints, and carrying from one to the other.
use Rattle.std.proofs.Common.{◌≡◌, ℕ, ◌≤◌, inl, inr, List, [], length, take, Some, Result, Ok, Err, OnErr, refl, sym, ap, subst, ◌∙◌}
use Rattle.std.proofs.lemmas.List.{take_all}
use Rattle.xti_base.specs.declared.kinds.Fd.{Fd}
use Rattle.xti_model.specs.declared.call.Call.{Call}
use Rattle.xti_model.specs.declared.entry.Reply.{Reply}
use Rattle.xti_model.specs.declared.entry.Reply.TheVariants.{Opened, UData}
use Rattle.xti_core.specs.Standing.{Standing}
use Rattle.xti_gbn.specs.Calls.{opening_call, binding_call, sending_call, receiving_call}
use Rattle.xti_gbn.specs.Answers.{opened_of, datagram_of, Answers, IsAnswered, IsMade, Opens, IsOpened, Gives, IsGiven}
use Rattle.xti_gbn.specs.Ready.{sender_address, receiver_address, sender_fd, receiver_fd, start, ready, IsRoute}
use Rattle.xti_gbn.proofs.Steps.{one_open, both_open, one_bound, opens_first, opens_second, binds_first, binds_second, one_reply, one_world, at_receiver, at_sender, sends, sends_back, receives, receives_back}

-- ---- opening and binding

can_open : (old new w : Standing) (fd : Fd) → Answers old opening_call (Opened fd) new → w ≡ old → IsOpened w
can_open old new w fd a e = subst IsOpened (sym e) (fd, new, record { reply = Opened fd; answers = a; tells = refl })

same_fd : (fd known : Fd) → Some fd ≡ Some known → fd ≡ known
same_fd fd known e = cc

opens : (old new w v : Standing) (fd known : Fd) → Answers old opening_call (Opened known) new → w ≡ old → Opens w fd v → (fd ≡ known) × (v ≡ new)
opens old new w v fd known a e o =
    let there : Opens old fd v = subst (λ (x : Standing). Opens x fd v) e o in
    let reply : there.reply ≡ Opened known = one_reply old opening_call there.reply (Opened known) v new there.answers a in
    let told : Some fd ≡ Some known = sym there.tells ∙ ap opened_of reply in
    (same_fd fd known told, one_world old opening_call there.reply (Opened known) v new there.answers a)

makes : (old new w v : Standing) (call asked : Call) (reply : Reply) → Answers old call reply new → w ≡ old → asked ≡ call → IsMade w asked v → v ≡ new
makes old new w v call asked reply a e same m =
    let there : IsMade old call v = subst (λ (x : Standing). IsMade x call v) e (subst (λ (x : Call). IsMade w x v) same m) in
    one_world old call there.0 reply v new there.1 a

can_make : (old new w : Standing) (call asked : Call) (reply : Reply) → Answers old call reply new → w ≡ old → asked ≡ call → IsAnswered w asked
can_make old new w call asked reply a e same = subst (λ (x : Call). IsAnswered w x) (sym same) (subst (λ (x : Standing). IsAnswered x call) (sym e) (reply, new, a))

pub can_open_first : (w : Standing) → w ≡ start → IsOpened w
can_open_first w = can_open start one_open w sender_fd opens_first

pub first_opened : (w v : Standing) (fd : Fd) → w ≡ start → Opens w fd v → (fd ≡ sender_fd) × (v ≡ one_open)
first_opened w v fd = opens start one_open w v fd sender_fd opens_first

pub can_open_second : (w : Standing) → w ≡ one_open → IsOpened w
can_open_second w = can_open one_open both_open w receiver_fd opens_second

pub second_opened : (w v : Standing) (fd : Fd) → w ≡ one_open → Opens w fd v → (fd ≡ receiver_fd) × (v ≡ both_open)
second_opened w v fd = opens one_open both_open w v fd receiver_fd opens_second

pub can_bind_first : (w : Standing) (fd : Fd) → w ≡ both_open → fd ≡ sender_fd → IsAnswered w (binding_call fd sender_address)
can_bind_first w fd e f = can_make both_open one_bound w _ _ _ binds_first e (ap (λ (x : Fd). binding_call x sender_address) f)

pub first_bound : (w v : Standing) (fd : Fd) → w ≡ both_open → fd ≡ sender_fd → IsMade w (binding_call fd sender_address) v → v ≡ one_bound
first_bound w v fd e f = makes both_open one_bound w v _ _ _ binds_first e (ap (λ (x : Fd). binding_call x sender_address) f)

pub can_bind_second : (w : Standing) (fd : Fd) → w ≡ one_bound → fd ≡ receiver_fd → IsAnswered w (binding_call fd receiver_address)
can_bind_second w fd e f = can_make one_bound ready w _ _ _ binds_second e (ap (λ (x : Fd). binding_call x receiver_address) f)

pub second_bound : (w v : Standing) (fd : Fd) → w ≡ one_bound → fd ≡ receiver_fd → IsMade w (binding_call fd receiver_address) v → v ≡ ready
second_bound w v fd e f = makes one_bound ready w v _ _ _ binds_second e (ap (λ (x : Fd). binding_call x receiver_address) f)

-- ---- carrying

same_sending : (from known : Fd) (address there bytes : List ℕ) → from ≡ known → address ≡ there → sending_call from address bytes ≡ sending_call known there bytes
same_sending from known address there bytes f a = ap (λ (x : Fd). sending_call x address bytes) f ∙ ap (λ (x : List ℕ). sending_call known x bytes) a

-- the datagram waits where the route ends
pub waiting : (from : Fd) (address : List ℕ) (to : Fd) → IsRoute from address to → List ℕ → Standing
waiting from address to (inl r) bytes = at_receiver bytes
waiting from address to (inr r) bytes = at_sender bytes

pub can_send : (w : Standing) (from : Fd) (address : List ℕ) (to : Fd) (bytes : List ℕ) → w ≡ ready → IsRoute from address to → 1 ≤ length bytes → length bytes ≤ 517 → IsAnswered w (sending_call from address bytes)
can_send w from address to bytes e (inl r) some most = can_make ready (at_receiver bytes) w _ _ _ (sends bytes some most) e (same_sending from sender_fd address receiver_address bytes r.0 r.1)
can_send w from address to bytes e (inr r) some most = can_make ready (at_sender bytes) w _ _ _ (sends_back bytes some most) e (same_sending from receiver_fd address sender_address bytes r.0 r.1)

pub sent : (w v : Standing) (from : Fd) (address : List ℕ) (to : Fd) (bytes : List ℕ) → w ≡ ready → (r : IsRoute from address to) → 1 ≤ length bytes → length bytes ≤ 517 → IsMade w (sending_call from address bytes) v → v ≡ waiting from address to r bytes
unfolding waiting
sent w v from address to bytes e (inl r) some most = makes ready (at_receiver bytes) w v _ _ _ (sends bytes some most) e (same_sending from sender_fd address receiver_address bytes r.0 r.1)
sent w v from address to bytes e (inr r) some most = makes ready (at_sender bytes) w v _ _ _ (sends_back bytes some most) e (same_sending from receiver_fd address sender_address bytes r.0 r.1)

gives : (old w : Standing) (fd known : Fd) (bytes : List ℕ) → Answers old (receiving_call known) (UData [] [] (take 517 bytes) 0) ready → w ≡ old → fd ≡ known → IsGiven w fd
gives old w fd known bytes a e f =
    let there : IsGiven old known = (take 517 bytes, ready, record { reply = UData [] [] (take 517 bytes) 0; answers = a; tells = refl }) in
    subst (λ (x : Standing). IsGiven x fd) (sym e) (subst (λ (x : Fd). IsGiven old x) (sym f) there)

same_bytes : (bytes came : List ℕ) → Some came ≡ Some bytes → came ≡ bytes
same_bytes bytes came e = cc

given : (old w v : Standing) (fd known : Fd) (bytes came : List ℕ) → length bytes ≤ 517 → Answers old (receiving_call known) (UData [] [] (take 517 bytes) 0) ready → w ≡ old → fd ≡ known → Gives w fd came v → (came ≡ bytes) × (v ≡ ready)
given old w v fd known bytes came most a e f g =
    let there : Gives old known came v = subst (λ (x : Standing). Gives x known came v) e (subst (λ (x : Fd). Gives w x came v) f g) in
    let reply : there.reply ≡ UData [] [] (take 517 bytes) 0 = one_reply old (receiving_call known) there.reply _ v ready there.answers a in
    let told : Some came ≡ Some (take 517 bytes) = sym there.tells ∙ ap datagram_of reply in
    (same_bytes (take 517 bytes) came told ∙ take_all 517 bytes most, one_world old (receiving_call known) there.reply _ v ready there.answers a)

pub can_receive : (w : Standing) (from : Fd) (address : List ℕ) (to : Fd) (bytes : List ℕ) (r : IsRoute from address to) → length bytes ≤ 517 → w ≡ waiting from address to r bytes → IsGiven w to
unfolding waiting
can_receive w from address to bytes (inl r) most e = gives (at_receiver bytes) w to receiver_fd bytes (receives bytes most) e r.2
can_receive w from address to bytes (inr r) most e = gives (at_sender bytes) w to sender_fd bytes (receives_back bytes most) e r.2

pub received : (w v : Standing) (from : Fd) (address : List ℕ) (to : Fd) (bytes came : List ℕ) (r : IsRoute from address to) → length bytes ≤ 517 → w ≡ waiting from address to r bytes → Gives w to came v → (came ≡ bytes) × (v ≡ ready)
unfolding waiting
received w v from address to bytes came (inl r) most e = given (at_receiver bytes) w v to receiver_fd bytes came most (receives bytes most) e r.2
received w v from address to bytes came (inr r) most e = given (at_sender bytes) w v to sender_fd bytes came most (receives_back bytes most) e r.2

waits_at : (old w : Standing) (fd known : Fd) (bytes : List ℕ) → length bytes ≤ 517 → Answers old (receiving_call known) (UData [] [] (take 517 bytes) 0) ready → w ≡ old → fd ≡ known → Gives w fd bytes ready
waits_at old w fd known bytes most a e f =
    let there : Gives old known bytes ready = record { reply = UData [] [] (take 517 bytes) 0; answers = a; tells = ap (λ (l : List ℕ). Some l) (take_all 517 bytes most) } in
    subst (λ (x : Standing). Gives x fd bytes ready) (sym e) (subst (λ (x : Fd). Gives old x bytes ready) (sym f) there)

-- what waits can be taken
pub waits : (w : Standing) (from : Fd) (address : List ℕ) (to : Fd) (bytes : List ℕ) (r : IsRoute from address to) → length bytes ≤ 517 → w ≡ waiting from address to r bytes → Gives w to bytes ready
unfolding waiting
waits w from address to bytes (inl r) most e = waits_at (at_receiver bytes) w to receiver_fd bytes most (receives bytes most) e r.2
waits w from address to bytes (inr r) most e = waits_at (at_sender bytes) w to sender_fd bytes most (receives_back bytes most) e r.2

-- what is said of an error
pub on_any_err : {T E P : Type 0} (r : Result T E) → P → OnErr r P
on_any_err (Ok x) p = tt
on_any_err (Err e) p = p

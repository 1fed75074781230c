-- What an endpoint hears of news, step by step.
use Rattle.std.proofs.Common.{◌≡◌, ℕ, Bool, true, false, ◌&&◌, ◌||◌, cond, Option, Some, None, refl, sym, ap, ◌∙◌}
use Rattle.std.specs.Prelude.{is_some, option_map}
use Rattle.xti_base.specs.declared.kinds.Fd.{Fd}
use Rattle.xti_base.specs.declared.kinds.Seq.{Seq}
use Rattle.xti_model.specs.declared.profile.Providers.{Providers}
use Rattle.xti_model.specs.Endpoint.{Endpoint, Disconnect, find_number, is_target, reset}
use Rattle.xti_model.specs.Links.{names}
use Rattle.xti_end.specs.Held.{Held, AddsDisconnect, is_open, is_open_as, parts, parts_of, with_disconnect, with_parts, with_target, without_pending}
use Rattle.xti_switch.specs.declared.notices.News.{News}
use Rattle.xti_switch.specs.declared.notices.News.TheVariants as news
use Rattle.xti_switch.specs.Hearing.{concerns, heard, is_told, Hears}

mapped-some : {A B : Type 0} (f : A → B) (o : Option A) → is_some (option_map f o) ≡ is_some o
mapped-some f None = refl
mapped-some f (Some x) = refl

mapped-twice : (f g : Endpoint → Endpoint) (o : Option Endpoint) → option_map g (option_map f o) ≡ option_map (λ e. g (f e)) o
mapped-twice f g None = refl
mapped-twice f g (Some e) = refl

mapped-alike : (f g : Endpoint → Endpoint) (o : Option Endpoint) → ((e : Endpoint) → o ≡ Some e → f e ≡ g e) → option_map f o ≡ option_map g o
mapped-alike f g None h = refl
mapped-alike f g (Some e) h = ap Some (h e refl)

-- an endpoint that changed is open still
pub open-with : (f : Endpoint → Endpoint) (h m : Held) → m ≡ with_parts f h → is_open h ≡ true → is_open m ≡ true
open-with f h m e o = ap (λ (x : Held). is_open x) e ∙ (mapped-some f h.body ∙ o)

pub open-added : (d : Disconnect) (h m : Held) → AddsDisconnect d h m → is_open h ≡ true → is_open m ≡ true
open-added d h m e o = ap (λ (x : Held). is_open x) e ∙ (mapped-some (with_disconnect d) h.body ∙ o)

-- what a request's caller is found by
pub found-alike : {A B C : Type 0} (f : A → C) (g : B → C) (a : Option A) (b : Option B) → option_map f a ≡ option_map g b → is_some a ≡ is_some b
found-alike f g a b e = sym (mapped-some f a) ∙ (ap is_some e ∙ mapped-some g b)

pub both : (a b : Bool) → a ≡ true → b ≡ true → (a && b) ≡ true
both a b s t = ap (λ (x : Bool). x && b) s ∙ t

pub either-first : (a b : Bool) → a ≡ true → (a || b) ≡ true
either-first a b s = ap (λ (x : Bool). x || b) s

pub either-second : (a b : Bool) → a ≡ false → b ≡ true → (a || b) ≡ true
either-second a b s t = ap (λ (x : Bool). x || b) s ∙ t

pub neither : (a b : Bool) → a ≡ false → b ≡ false → (a || b) ≡ false
neither a b s t = ap (λ (x : Bool). x || b) s ∙ t

-- an endpoint that isn't open with the descriptor hears nothing
pub not-told : (p : Providers) (fd : ℕ) (n : News) (d : Disconnect) (h : Held) → is_open_as p fd h ≡ false → Hears p fd n d h h
not-told p fd n d h o = sym (ap (λ (b : Bool). cond (b && concerns n (parts h)) (record (with_parts (heard n d) h) { spare_disconnects = h.spare_disconnects }) h) o)

-- one that is open with it
module _ (p : Providers) (fd : ℕ) (h : Held) (o : is_open_as p fd h ≡ true) where
  pub told-of : (n m : News) → n ≡ m → concerns m (parts h) ≡ true → is_told p fd n h ≡ true
  told-of n m e c = both (is_open_as p fd h) (concerns n (parts h)) o (ap (λ (x : News). concerns x (parts h)) e ∙ c)

  module _ (n : News) (d : Disconnect) where
    pub unconcerned : (m : News) → n ≡ m → concerns m (parts h) ≡ false → Hears p fd n d h h
    unconcerned m e c =
        let same = record (with_parts (heard n d) h) { spare_disconnects = h.spare_disconnects } in
        sym (ap (λ (b : Bool). cond (b && concerns n (parts h)) same h) o ∙ ap (λ (b : Bool). cond b same h) (ap (λ (x : News). concerns x (parts h)) e ∙ c))

    -- it hears what concerns it
    concerned : (m : News) (f : Endpoint → Endpoint) (new : Held) → n ≡ m → concerns m (parts h) ≡ true → ((e : Endpoint) → h.body ≡ Some e → f e ≡ heard m d e)
        → new ≡ record (with_parts f h) { spare_disconnects = new.spare_disconnects } → Hears p fd n d h new
    concerned m f new e c alike t =
        let known = record (with_parts (heard n d) h) { spare_disconnects = new.spare_disconnects } in
        let body : option_map f h.body ≡ option_map (heard n d) h.body = mapped-alike f (heard m d) h.body alike ∙ ap (λ (x : News). option_map (heard x d) h.body) (sym e) in
        t ∙ ap (λ (b : Option Endpoint). record h { body = b; spare_disconnects = new.spare_disconnects }) body
        ∙ sym (ap (λ (b : Bool). cond b known h) (told-of n m e c))

    pub peer-told : (by : Fd) (m new : Held) → n ≡ news.Broken by → names by.0 (parts h).peer ≡ true → m ≡ with_parts reset h → AddsDisconnect d m new → Hears p fd n d h new
    peer-told by m new e c r a =
        let f = λ (x : Endpoint). with_disconnect d (reset x) in
        concerned (news.Broken by) f new e c
        (λ x i. sym (ap (λ (b : Bool). cond b (f x) x) (ap (λ (b : Option Endpoint). names by.0 (parts_of b).peer) (sym i) ∙ c)))
        (a ∙ ap (λ (k : Held). record (with_parts (with_disconnect d) k) { spare_disconnects = new.spare_disconnects }) r
        ∙ ap (λ (b : Option Endpoint). record h { body = b; spare_disconnects = new.spare_disconnects }) (mapped-twice reset (with_disconnect d) h.body))

    pub pending-dropped : (number : Seq) (new : Held) → n ≡ news.TakenBack number → is_some (find_number number.0 (parts h).pending) ≡ true → new ≡ with_parts (without_pending number.0) h → Hears p fd n d h new
    pending-dropped number new e c r =
        let f = without_pending number.0 in
        concerned (news.TakenBack number) f new e (either-first _ (is_some (find_number number.0 (parts h).outstanding)) c)
        (λ x i. sym (ap (λ (b : Bool). cond b (f x) (cond (is_some (find_number number.0 x.outstanding)) (with_disconnect d x) x))
        (ap (λ (b : Option Endpoint). is_some (find_number number.0 (parts_of b).pending)) (sym i) ∙ c)))
        (r ∙ ap (λ (s : ℕ). record (with_parts f h) { spare_disconnects = s }) (sym (ap (λ (k : Held). k.spare_disconnects) r)))

    pub listener-told : (number : Seq) (new : Held) → n ≡ news.TakenBack number → is_some (find_number number.0 (parts h).pending) ≡ false → is_some (find_number number.0 (parts h).outstanding) ≡ true → AddsDisconnect d h new → Hears p fd n d h new
    listener-told number new e q c a =
        let f = with_disconnect d in
        concerned (news.TakenBack number) f new e (either-second (is_some (find_number number.0 (parts h).pending)) _ q c)
        (λ x i. sym (ap (λ (b : Bool). cond b (without_pending number.0 x) (cond (is_some (find_number number.0 x.outstanding)) (f x) x))
        (ap (λ (b : Option Endpoint). is_some (find_number number.0 (parts_of b).pending)) (sym i) ∙ q)
        ∙ ap (λ (b : Bool). cond b (f x) x) (ap (λ (b : Option Endpoint). is_some (find_number number.0 (parts_of b).outstanding)) (sym i) ∙ c)))
        a

    -- a caller has no target then
    caller-told : (m : News) (k new : Held) → n ≡ m → concerns m (parts h) ≡ true → ((e : Endpoint) → h.body ≡ Some e → with_target None (with_disconnect d e) ≡ heard m d e) → AddsDisconnect d h k → new ≡ with_parts (with_target None) k → Hears p fd n d h new
    caller-told m k new e c alike a r =
        let spare : k.spare_disconnects ≡ new.spare_disconnects = sym (ap (λ (x : Held). x.spare_disconnects) r) in
        concerned m (λ x. with_target None (with_disconnect d x)) new e c alike
        (r ∙ ap (λ (x : Held). with_parts (with_target None) x) a
        ∙ ap (λ (b : Option Endpoint). record h { body = b; spare_disconnects = k.spare_disconnects }) (mapped-twice (with_disconnect d) (with_target None) h.body)
        ∙ ap (λ (s : ℕ). record (with_parts (λ x. with_target None (with_disconnect d x)) h) { spare_disconnects = s }) spare)

    pub given-up : (listener : Fd) (number : Seq) (k new : Held) → n ≡ news.GivenUp listener number → is_target listener.0 number.0 (parts h).target ≡ true → AddsDisconnect d h k → new ≡ with_parts (with_target None) k → Hears p fd n d h new
    given-up listener number k new e c a r =
        caller-told (news.GivenUp listener number) k new e c
        (λ x i. sym (ap (λ (b : Bool). cond b (with_target None (with_disconnect d x)) x) (ap (λ (b : Option Endpoint). is_target listener.0 number.0 (parts_of b).target) (sym i) ∙ c))) a r

    pub rejected : (k new : Held) → n ≡ news.Rejected → AddsDisconnect d h k → new ≡ with_parts (with_target None) k → Hears p fd n d h new
    rejected k new e a r = caller-told news.Rejected k new e refl (λ x i. refl) a r

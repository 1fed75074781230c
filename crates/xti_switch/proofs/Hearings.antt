-- What a notice makes of the endpoint that hears it, and of the notices that are left.
use Rattle.std.proofs.Common.{◌≡◌, ◌≤◌, ◌<◌, ℕ, Bool, true, false, ◌&&◌, ◌||◌, cond, eqb, Option, Some, None, IfSome, refl, ap, ◌∙◌, subst, arith}
use Rattle.std.specs.Prelude.{is_some, option_map}
use Rattle.std.proofs.lemmas.Bool.{eq-eqb, eqb-true}
use Rattle.tpi_grammar.specs.declared.kind.Kind.TheVariants.{T_DISCON_IND}
use Rattle.tpi_prim.specs.Fields.{kind_in}
use Rattle.xti_model.specs.declared.profile.Providers.{Providers}
use Rattle.xti_model.specs.Endpoint.{Endpoint, Disconnect, find_number}
use Rattle.xti_model.specs.World.{place_of, generation_of, places, endpoint, change_endpoint}
use Rattle.xti_end.specs.Frames.{disconnect_in}
use Rattle.xti_end.specs.Held.{Held, cell, parts, parts_of, with_parts, is_open_as}
use Rattle.xti_lent.specs.Lending.{Lending, held_at, with_held, cells}
use Rattle.xti_lent.proofs.Lendings.{put-same, put-other}
use Rattle.xti_lent.proofs.Open.{endpoint-open}
use Rattle.xti_lent.proofs.Sequences.{same-cell, same-then}
use Rattle.xti_lent.proofs.Written.{still-held, written-same}
use Rattle.xti_switch.specs.declared.notices.News.{News}
use Rattle.xti_switch.specs.declared.notices.News.TheVariants as news
use Rattle.xti_switch.specs.declared.notices.Notice.{Notice}
use Rattle.xti_switch.specs.Hearing.{concerns, heard, is_told, HasRoom, Hears, IsReady, Silences, TakesRoom}

or-parts : (a b : Bool) → (a || b) ≡ false → (a ≡ false) × (b ≡ false)
or-parts true b e = cc
or-parts false b e = (refl, e)

-- what does not concern an endpoint leaves it
unheard : (n : News) (d : Disconnect) (e : Endpoint) → concerns n e ≡ false → heard n d e ≡ e
unheard (news.Broken by) d e c = rw c refl
unheard (news.TakenBack number) d e c =
    let s = or-parts (is_some (find_number number.0 e.pending)) (is_some (find_number number.0 e.outstanding)) c in
    rw (s.0, s.1) refl
unheard (news.GivenUp listener number) d e c = rw c refl
unheard news.Rejected d e c = cc

moved : (t : Bool) (x y z : Held) → t ≡ true → z ≡ cond t x y → z ≡ x
moved true x y z e k = k
moved false x y z e k = cc

unmoved : (t : Bool) (x y z : Held) → t ≡ false → z ≡ cond t x y → z ≡ y
unmoved true x y z e k = cc
unmoved false x y z e k = k

abbrev hearing : News → Disconnect → Held → Held → Held
hearing n d h new = record (with_parts (heard n d) h) { spare_disconnects = new.spare_disconnects }

-- the cell of the endpoint that hears it
heard-cell : (o : Option Endpoint) (b c : Bool) (p : Providers) (fd : ℕ) (n : News) (d : Disconnect) (h new : Held) → h.body ≡ o → eqb h.generation (generation_of p fd) ≡ b → eqb h.place (place_of p fd) ≡ true → concerns n (parts_of o) ≡ c
    → Hears p fd n d h new → cell new ≡ change_endpoint (generation_of p fd) (heard n d) (cell h)
heard-cell None b c p fd n d h new hb hg hp hc k =
    let t : is_told p fd n h ≡ false = rw hb refl in ap (λ (x : Held). cell x) (unmoved (is_told p fd n h) (hearing n d h new) h new t k) ∙ rw hb refl
heard-cell (Some e) false c p fd n d h new hb hg hp hc k =
    let t : is_told p fd n h ≡ false = rw (hb, hg) refl in ap (λ (x : Held). cell x) (unmoved (is_told p fd n h) (hearing n d h new) h new t k) ∙ rw (hb, hg) refl
heard-cell (Some e) true false p fd n d h new hb hg hp hc k =
    let t : is_told p fd n h ≡ false = rw (hb, hg, hp, hc) refl in
    ap (λ (x : Held). cell x) (unmoved (is_told p fd n h) (hearing n d h new) h new t k) ∙ rw (hb, hg, unheard n d e hc) refl
heard-cell (Some e) true true p fd n d h new hb hg hp hc k =
    let t : is_told p fd n h ≡ true = rw (hb, hg, hp, hc) refl in
    ap (λ (x : Held). cell x) (moved (is_told p fd n h) (hearing n d h new) h new t k) ∙ rw (hb, hg) refl

pub hears-cell : (p : Providers) (fd : ℕ) (n : News) (d : Disconnect) (h new : Held) → h.place ≡ place_of p fd → Hears p fd n d h new → cell new ≡ change_endpoint (generation_of p fd) (heard n d) (cell h)
hears-cell p fd n d h new q k = heard-cell h.body (eqb h.generation (generation_of p fd)) (concerns n (parts_of h.body)) p fd n d h new refl refl (eq-eqb h.place (place_of p fd) q) refl k

pub hears-place : (p : Providers) (fd : ℕ) (n : News) (d : Disconnect) (h new : Held) → Hears p fd n d h new → new.place ≡ h.place
hears-place p fd n d h new k = go (is_told p fd n h) k
  where
    go : (t : Bool) → new ≡ cond t (record (with_parts (heard n d) h) { spare_disconnects = new.spare_disconnects }) h → new.place ≡ h.place
    go true e = ap (λ (x : Held). x.place) e
    go false e = ap (λ (x : Held). x.place) e

-- a notice is ready still, once a place was written where it has as much room
ready-step : (b : Bool) (l : Lending) (n : ℕ) (h new : Held) (m : Notice) → held_at l n ≡ Some h → eqb (place_of l.providers m.to.0) n ≡ b → ((concerns m.news (parts h) ≡ true → HasRoom h) → concerns m.news (parts new) ≡ true → HasRoom new)
    → IfSome (held_at l (place_of l.providers m.to.0)) (λ x. concerns m.news (parts x) ≡ true → HasRoom x) → IfSome (held_at (with_held l n new) (place_of l.providers m.to.0)) (λ x. concerns m.news (parts x) ≡ true → HasRoom x)
ready-step true l n h new m e t k r =
    let s : place_of l.providers m.to.0 ≡ n = eqb-true (place_of l.providers m.to.0) n t in
    let j = rw (s, e) at r in
    rw (s, put-same n l.numbers l.held h new e) (k j)
ready-step false l n h new m e t k r = rw (put-other n (place_of l.providers m.to.0) l.numbers l.held new t) r

pub ready-at : (l : Lending) (n : ℕ) (h new : Held) (m : Notice) → held_at l n ≡ Some h → new.place ≡ h.place → ((concerns m.news (parts h) ≡ true → HasRoom h) → concerns m.news (parts new) ≡ true → HasRoom new) → IsReady l m
    → IsReady (with_held l n new) m
ready-at l n h new m e q k r = record {
  kind = r.kind;
  there = still-held l (with_held l n new) (place_of l.providers m.to.0) (written-same l n h new e q) ∙ r.there;
  room = ready-step (eqb (place_of l.providers m.to.0) n) l n h new m e refl k r.room;
}

-- who heard one notice has room for another, which does not concern it then
parts-with : (o : Option Endpoint) (f : Endpoint → Endpoint) → is_some o ≡ true → parts_of (option_map f o) ≡ f (parts_of o)
parts-with None f e = cc
parts-with (Some x) f e = refl

first-true : (a b c d : Bool) → (((a && b) && c) && d) ≡ true → a ≡ true
first-true true b c d e = refl
first-true false b c d e = cc

open-true : (a d : Bool) → (a && d) ≡ true → (a ≡ true) × (d ≡ true)
open-true true d e = (refl, e)
open-true false d e = cc

room-step : (t : Bool) (p : Providers) (fd : ℕ) (n m : News) (d : Disconnect) (h new : Held) → is_told p fd n h ≡ t → new ≡ cond t (record (with_parts (heard n d) h) { spare_disconnects = new.spare_disconnects }) h
    → (is_told p fd n h ≡ true → concerns m (heard n d (parts h)) ≡ false) → (concerns m (parts h) ≡ true → HasRoom h) → concerns m (parts new) ≡ true → HasRoom new
room-step true p fd n m d h new t k s r c =
    let i : is_some h.body ≡ true = first-true (is_some h.body) (eqb h.generation (generation_of p fd)) (eqb h.place (place_of p fd)) (concerns n (parts h)) t in
    let q : parts new ≡ heard n d (parts h) = ap (λ (x : Held). parts x) k ∙ parts-with h.body (heard n d) i in
    let f : concerns m (heard n d (parts h)) ≡ false = s t in
    let g : concerns m (heard n d (parts h)) ≡ true = rw q at c in
    cc
room-step false p fd n m d h new t k s r c =
    let g : concerns m (parts h) ≡ true = rw k at c in
    rw k (r g)

silent : (o : Option Endpoint) (n m : News) (d : Disconnect) (x : Endpoint) → Some x ≡ o → IfSome o (λ e. concerns n e ≡ true → concerns m (heard n d e) ≡ false) → concerns n x ≡ true → concerns m (heard n d x) ≡ false
silent None n m d x e s c = cc
silent (Some y) n m d x e s c = let q : x ≡ y = cc in rw q (s (rw q at c))

pub told-ready : (l : Lending) (p : Providers) (n : ℕ) (h new : Held) (first other : Notice) → p ≡ l.providers → n ≡ place_of p first.to.0 → held_at l n ≡ Some h → Hears p first.to.0 first.news (disconnect_in first.frame) h new
    → Silences l first other → IsReady l other → IsReady (with_held l n new) other
told-ready l p n h new first other ep en e k s r =
    ready-at l n h new other e (hears-place p first.to.0 first.news (disconnect_in first.frame) h new k)
    (room-step (is_told p first.to.0 first.news h) p first.to.0 first.news other.news (disconnect_in first.frame) h new refl k
    (λ t. let o = open-true (is_open_as p first.to.0 h) (concerns first.news (parts h)) t in
    silent (endpoint l.providers (cells l) first.to.0) first.news other.news (disconnect_in first.frame) (parts h)
    (endpoint-open l first.to.0 h (subst (λ k. held_at l k ≡ Some h) (en ∙ ap (λ (q : Providers). place_of q first.to.0) ep) e) (subst (λ (q : Providers). is_open_as q first.to.0 h ≡ true) ep o.0)) s o.1)) r

-- room is taken at a place
pub room-taken : (l : Lending) (n : ℕ) (h new : Held) → n < places l.providers → held_at l n ≡ Some h → new ≡ record h { spare_disconnects = new.spare_disconnects } → h.spare_disconnects ≤ new.spare_disconnects → TakesRoom l (with_held l n new)
room-taken l n h new lt e q s = record {
  unchanged = same-cell l n h new lt e (ap (λ (x : Held). cell x) q);
  kept = written-same l n h new e (ap (λ (x : Held). x.place) q);
  registry = refl;
  ready = λ m r. ready-at l n h new m e (ap (λ (x : Held). x.place) q) (λ j c. let b : new.body ≡ h.body = ap (λ (x : Held). x.body) q in let i : HasRoom h = j (rw b at c) in omega (arith, i, s)) r;
}

pub no-room-taken : (l : Lending) → TakesRoom l l
no-room-taken l = record { unchanged = refl; kept = record { providers = refl; numbers = refl; places = refl }; registry = refl; ready = λ m r. r }

pub room-then : (a b c : Lending) → TakesRoom a b → TakesRoom b c → TakesRoom a c
room-then a b c s t = record { unchanged = t.unchanged ∙ s.unchanged; kept = same-then a b c s.kept t.kept; registry = t.registry ∙ s.registry; ready = λ m r. t.ready m (s.ready m r) }

-- the caller of a rejected request has room still, once another part of its place changed
pub rejected-ready : (l : Lending) (n : ℕ) (h new : Held) (m : Notice) → held_at l n ≡ Some h → new.place ≡ h.place → new.spare_disconnects ≡ h.spare_disconnects → m.news ≡ news.Rejected → IsReady l m → IsReady (with_held l n new) m
rejected-ready l n h new m e q s i r =
    ready-at l n h new m e q (λ j c. let k : concerns m.news (parts h) ≡ true = rw i refl in let a : HasRoom h = j k in rw s a) r

-- a notice for whose place room was made
pub prepared : (l : Lending) (n : ℕ) (h new : Held) (m : Notice) → held_at l n ≡ Some h → new.place ≡ h.place → kind_in m.frame ≡ T_DISCON_IND → n ≡ place_of l.providers m.to.0 → HasRoom new → IsReady (with_held l n new) m
prepared l n h new m e q k i r =
    let j : held_at (with_held l n new) (place_of l.providers m.to.0) ≡ Some new = rw (← i) (put-same n l.numbers l.held h new e) in
    record { kind = k; there = ap is_some j; room = rw j (λ c. r) }

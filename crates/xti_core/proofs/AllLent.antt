-- A world has all cells that a call touches, and so they are lent where all are.
use Rattle.std.proofs.Common.{◌≡◌, ℕ, ◌+◌, ◌<◌, ◌≤◌, ◌++◌, Bool, true, false, ltb, List, [], ◌∷◌, length, map, Option, Some, None, refl, sym, ap, ◌∙◌, subst, arith}
use Rattle.std.specs.Prelude.{option_map, option_to_list, is_some}
use Rattle.std.specs.List.{AllByRecursion}
use Rattle.std.proofs.lemmas.Bool.Decides.{nat_tests}
use Rattle.std.proofs.lemmas.List.Quantifiers.{position-Some}
use Rattle.xti_base.specs.declared.kinds.Prov.{Prov}
use Rattle.xti_model.specs.declared.call.Call.{Call}
use Rattle.xti_model.specs.declared.call.Call.TheVariants as call
use Rattle.xti_model.specs.declared.profile.Providers.{Providers}
use Rattle.xti_model.specs.Endpoint.{Endpoint, Indication, find_number}
use Rattle.xti_model.specs.Provider.{is_provider}
use Rattle.xti_model.specs.Sound.{ThereAgrees}
use Rattle.xti_model.specs.Switch.{bound, listener, opening_place, free_place, if_provider, is_free}
use Rattle.xti_model.specs.World.{World, Cell, Switch, closed_place, cell_at, is_among, the_switch, places, place_of, switch_number, endpoint}
use Rattle.xti_model.specs.Touched.{named, touched, others, fd_of, cell_of, of_some, peer_cell, target_cell, caller_cell, caller_cells, bound_cell, listener_cell, cells_to, marked_cells}
use Rattle.xti_model.proofs.RisingNumbers.{all-listed}
use Rattle.xti_laws.specs.Laws.{KnowsNoMore}
use Rattle.xti_laws.specs.Invariant.{SoundWorld}
use Rattle.xti_laws.proofs.Lent.{switch-there}
use Rattle.xti_lent.specs.Lending.{Lending, cell_lent, cells, cells_by, is_lent}
use Rattle.xti_lent.specs.Fit.{AllLent}
use Rattle.xti_lent.proofs.Places.{place-cell, fd-cell, switch-cell}
use Rattle.xti_lent.proofs.Worlds.{at_number, cell_at-is}
use Rattle.xti_lent.proofs.Named.{among-all, all-among, first-among, named-lent}

-- the number is that of a place or of the switch
abbrev IsCell : Providers → ℕ → Type 0
IsCell p n = n < places p + 1

abbrev AreCells : Providers → List ℕ → Type 0
AreCells p ns = AllByRecursion (IsCell p) ns

pub both-cells : (p : Providers) (ns ms : List ℕ) → AreCells p ns → AreCells p ms → AreCells p (ns ++ ms)
both-cells p [] ms a b = b
both-cells p (n ∷ ns) ms a b = (a.0, both-cells p ns ms a.1 b)

pub fd-cells : (p : Providers) (o : Option ℕ) → AreCells p (cell_of p o)
fd-cells p None = tt
fd-cells p (Some fd) = (fd-cell p fd, tt)

pub of-cells : (p : Providers) (o : Option Endpoint) (f : Endpoint → List ℕ) → ((e : Endpoint) → AreCells p (f e)) → AreCells p (of_some o f)
of-cells p None f h = tt
of-cells p (Some e) f h = h e

pub callers-cells : (p : Providers) (is : List Indication) → AreCells p (map (λ i. place_of p i.caller) is)
callers-cells p [] = tt
callers-cells p (i ∷ is) = (fd-cell p i.caller, callers-cells p is)

pub known-cells : (p : Providers) (e : Endpoint) → AreCells p (peer_cell p e ++ target_cell p e ++ caller_cells p e)
known-cells p e =
    both-cells p (peer_cell p e ++ target_cell p e) (caller_cells p e) (both-cells p (peer_cell p e) (target_cell p e) (fd-cells p e.peer) (fd-cells p (option_map (λ t. t.listener) e.target))) (callers-cells p (e.pending ++ e.outstanding))

pub asked-cells : (p : Providers) (e : Endpoint) (n : ℕ) → AreCells p (peer_cell p e ++ target_cell p e ++ caller_cell p n e)
asked-cells p e n =
    both-cells p (peer_cell p e ++ target_cell p e) (caller_cell p n e) (both-cells p (peer_cell p e) (target_cell p e) (fd-cells p e.peer) (fd-cells p (option_map (λ t. t.listener) e.target))) (fd-cells p (option_map (λ i. i.caller) (find_number n e.outstanding)))

pub looked-cells : (p : Providers) (w : World) (e : Endpoint) → AreCells p (peer_cell p e ++ marked_cells p w e)
looked-cells p w e = both-cells p (peer_cell p e) (marked_cells p w e) (fd-cells p e.peer) (go e.flow_datagram)
  where
    go : (o : Option (List ℕ)) → AreCells p (cells_to p w e o)
    go None = tt
    go (Some a) = (switch-cell p, fd-cells p (bound (the_switch p w) e.prov a))

pub opening-cells : (p : Providers) (s : Switch) (prov : Prov) → length s.places ≤ places p → AreCells p (option_to_list (opening_place p s prov))
opening-cells p s prov k = go (is_provider prov) (free_place p s) refl
  where
    go : (b : Bool) (o : Option ℕ) → free_place p s ≡ o → AreCells p (option_to_list (if_provider b o))
    go true None e = tt
    go true (Some n) e = let l = (position-Some (is_free p) s.places n closed_place e).0 in (place-cell p n (omega (arith, l, k)), tt)
    go false o e = tt

pub others-cells : (p : Providers) (w : World) (c : Call) → KnowsNoMore p w → AreCells p (others p w c)
others-cells p w (call.TOpen prov nonblock) k = (switch-cell p, opening-cells p (the_switch p w) prov k)
others-cells p w (call.TClose fd) k = (switch-cell p, of-cells p (endpoint p w fd.0) _ (known-cells p))
others-cells p w (call.TBind fd addr qlen amax) k = (switch-cell p, tt)
others-cells p w (call.TUnbind fd) k = (switch-cell p, tt)
others-cells p w (call.TConnect fd addr opt udata amax omax umax) k = (switch-cell p, of-cells p (endpoint p w fd.0) (listener_cell p w fd.0 addr) (λ e. fd-cells p (listener (the_switch p w) e.prov addr fd.0)))
others-cells p w (call.TAccept fd resfd seq opt udata) k = (switch-cell p, (fd-cell p resfd.0, of-cells p (endpoint p w fd.0) (caller_cell p seq.0) (λ e. fd-cells p (option_map (λ i. i.caller) (find_number seq.0 e.outstanding)))))
others-cells p w (call.TSnd fd bytes flags) k = of-cells p (endpoint p w fd.0) (peer_cell p) (λ e. fd-cells p e.peer)
others-cells p w (call.TSndV fd parts flags) k = of-cells p (endpoint p w fd.0) (peer_cell p) (λ e. fd-cells p e.peer)
others-cells p w (call.TSndRel fd) k = of-cells p (endpoint p w fd.0) (peer_cell p) (λ e. fd-cells p e.peer)
others-cells p w (call.TSndRelData fd udata) k = of-cells p (endpoint p w fd.0) (peer_cell p) (λ e. fd-cells p e.peer)
others-cells p w (call.TSndDis fd seq udata) k = of-cells p (endpoint p w fd.0) _ (λ e. asked-cells p e seq.0)
others-cells p w (call.TSndUData fd addr opt bytes) k = (switch-cell p, of-cells p (endpoint p w fd.0) (bound_cell p w addr) (λ e. fd-cells p (bound (the_switch p w) e.prov addr)))
others-cells p w (call.TSndVUData fd addr opt parts) k = (switch-cell p, of-cells p (endpoint p w fd.0) (bound_cell p w addr) (λ e. fd-cells p (bound (the_switch p w) e.prov addr)))
others-cells p w (call.TLookAt fd) k = of-cells p (endpoint p w fd.0) _ (looked-cells p w)
others-cells p w other k = tt

-- what a call touches are cells
pub touched-cells : (p : Providers) (w : World) (c : Call) → KnowsNoMore p w → AreCells p (touched p w c)
touched-cells p w c k = all-listed (IsCell p) (named p w c) (both-cells p (cell_of p (fd_of c)) (others p w c) (fd-cells p (fd_of c)) (others-cells p w c k))

-- each cell of a sound world is there
pub there-is : (p : Providers) (at : ℕ → Option Cell) (n : ℕ) → SoundWorld p (cells_by p at) → n < places p + 1 → is_some (at n) ≡ true
there-is p at n s lt = go (ltb n (places p)) refl (at n) refl
  where
    gone : (m : ℕ) → m < places p + 1 → at m ≡ None → cell_at (cells_by p at) m ≡ None
    gone m l e = cell_at-is p at m l ∙ ap (option_map (at_number m)) e

    go : (b : Bool) → ltb n (places p) ≡ b → (o : Option Cell) → at n ≡ o → is_some o ≡ true
    go b i (Some c) e = refl
    go true i None e =
        let l : n < places p = grind (arith, nat_tests) in
        absurd (subst (ThereAgrees p (the_switch p (cells_by p at)) n) (gone n lt e) (s.registered.agreement.each_agrees n l))
    go false i None e =
        let l : n ≡ switch_number p = grind (arith, nat_tests) in
        let h = gone (switch_number p) (switch-cell p) (subst (λ z. at z ≡ None) l e) in
        absurd (let k = switch-there p (cells_by p at) s in let m = sym h ∙ k in cc)

-- a sound world has all its cells, and so those that a call touches
pub all-there : (l : Lending) (c : Call) → SoundWorld l.providers (cells l) → AllLent l (touched l.providers (cells l) c)
all-there l c s =
    among-all (λ n. is_lent l n ≡ true) (touched l.providers (cells l) c) (λ n i.
    there-is l.providers (cell_lent l) n s (all-among (IsCell l.providers) (touched l.providers (cells l) c) n (touched-cells l.providers (cells l) c (omega (arith, s.registered.agreement.places_known))) i))

-- the cell of a call's descriptor is touched
pub own-lent : (l : Lending) (c : Call) (fd : ℕ) → fd_of c ≡ Some fd → AllLent l (touched l.providers (cells l) c) → is_lent l (place_of l.providers fd) ≡ true
own-lent l c fd f a =
    let n = place_of l.providers fd in
    named-lent l (named l.providers (cells l) c) n a (ap (λ z. is_among (cell_of l.providers z ++ others l.providers (cells l) c) n) f ∙ first-among n (others l.providers (cells l) c))

-- The connection of a copy: it is the only one, and over it went the input.
use Rattle.std.proofs.Common.{ℕ, zero, suc, true, false, List, [], ◌∷◌, ◌++◌, ◌≡◌, ◌-◌, ◌==◌, ◌&&◌, refl, sym, ap, ap₂, ◌∙◌, filter, flat_map, length, take, drop, slice_get, Some, None, option_map, arith, take_all}
use Rattle.std.specs.List.{AllByRecursion, concat}
use Rattle.std.proofs.lemmas.Option.{none-some}
use Rattle.std.specs.Fmt.{digits}
use Rattle.xti_base.specs.Options.{begins_option, is_option_list, options_within}
use Rattle.xti_model.specs.declared.entry.Entry.{Entry}
use Rattle.xti_model.specs.World.{World, opening}
use Rattle.xti_model.specs.Step.{plan, step}
use Rattle.xti_model.specs.Profile.{usual}
use Rattle.xti_model.specs.History.{after}
use Rattle.xti_model.specs.Streams.{Made, made_of, add, made_from, Connection, connection, connection_in, life, until_over, is_made_by, sent_made, got_made, adds}
use Rattle.xti_model.proofs.Appending.{all-append}
use Rattle.xti_laws_streams.specs.Copying.{before, exchange, ending, copied, pieces}
use Rattle.xti_laws_streams.specs.CopyLaws.{accept_place, the_connection, HasOneConnection, sent_by_client, got_by_receiver}
use Rattle.xti_laws_streams.proofs.Pieces.{joined}
use Rattle.xti_laws_streams.proofs.Exchanges.{and-false}
use Rattle.xti_laws_streams.proofs.Singles.{IsSingle, AreSingle, single, begun_by, doing-single, copied-single}

-- ---- the steps of single entries

-- the step of an entry alone
abbrev pub made_alone : List Entry → List Made
made_alone [] = []
made_alone (e ∷ es) = add (option_map (made_of e) (begun_by e)) (made_alone es)

made-singles : (past es : List Entry) → AreSingle past → AreSingle es → made_from past es ≡ made_alone es
made-singles past [] p h = refl
made-singles past (e ∷ es) p h =
    ap₂ (λ g ms. add (option_map (made_of e) g) ms) (doing-single past e p h.0)
    (made-singles (past ++ e ∷ []) es (all-append IsSingle past (e ∷ []) p (h.0, tt)) h.1)

-- the steps of an endpoint, up to the end of its connection
abbrev pub life_alone : ℕ → List Entry → List Made
life_alone fd es = until_over (filter (is_made_by fd) (made_alone es))

-- what comes after the accept
abbrev pub later : List ℕ → List Entry
later input = drop 8 before ++ (flat_map exchange (pieces input) ++ ending)

later-single : (input : List ℕ) → AreSingle (later input)
later-single input = (copied-single input).1.1.1.1.1.1.1.1

earlier-single : AreSingle (take 8 before)
earlier-single = (single _ _ _, (single _ _ _, (single _ _ _, (single _ _ _, (single _ _ _, (single _ _ _, (single _ _ _, (single _ _ _, tt))))))))

life-is : (input : List ℕ) (fd : ℕ) → life (copied input) accept_place fd ≡ life_alone fd (later input)
life-is input fd = ap (λ ms. until_over (filter (is_made_by fd) ms)) (made-singles (take 8 before) (later input) earlier-single (later-single input))

-- ---- what was sent and received

-- the whole piece
whole : (p : List ℕ) → take (length p - 0) (drop 0 p) ≡ p
whole p = take_all (length p - 0) p (omega arith)

sends : List Entry → List ℕ
sends es = flat_map (sent_made the_connection false) (life_alone 1 es)

sends-piece : (p : List ℕ) → adds the_connection false (record { bytes = p; flags = 0 }) 0 (length p) ≡ p
sends-piece p = rw (and-false ((length p == length p) && true)) (whole p)

sends-pieces : (ps : List (List ℕ)) → sends (flat_map exchange ps ++ ending) ≡ concat ps
unfolding sends
sends-pieces [] = refl
sends-pieces (p ∷ ps) = ap₂ (λ xs ys. xs ++ ys) (sends-piece p) (sends-pieces ps)

receives : List Entry → List ℕ
receives es = flat_map (got_made the_connection false) (life_alone 2 es)

receives-pieces : (ps : List (List ℕ)) → receives (flat_map exchange ps ++ ending) ≡ concat ps
unfolding receives
receives-pieces [] = refl
receives-pieces (p ∷ ps) = ap (λ ys. p ++ ys) (receives-pieces ps)

pub sent-is : (input : List ℕ) → sent_by_client (copied input) ≡ input
unfolding sends
sent-is input = ap (flat_map (sent_made the_connection false)) (life-is input 1) ∙ (sends-pieces (pieces input) ∙ joined input)

pub got-is : (input : List ℕ) → got_by_receiver (copied input) ≡ input
unfolding receives
got-is input = ap (flat_map (got_made the_connection false)) (life-is input 2) ∙ (receives-pieces (pieces input) ∙ joined input)

-- ---- the one connection

connects : (input : List ℕ) → connection usual (copied input) accept_place ≡ Some the_connection
unfolding digits opening step plan is_option_list options_within begins_option
connects input = refl

-- this entry makes no connection
abbrev pub MakesNone : Entry → Type 0
MakesNone e = (w : World) → connection_in usual w (Some e) ≡ None

none-made : (es : List Entry) → AllByRecursion MakesNone es → (w : World) (place : ℕ) → connection_in usual w (slice_get es place) ≡ None
none-made [] h w place = refl
none-made (e ∷ es) h w zero = h.0 w
none-made (e ∷ es) h w (suc place) = none-made es h.1 w place

exchanges-none : (ps : List (List ℕ)) → AllByRecursion MakesNone (flat_map exchange ps ++ ending)
exchanges-none [] = (λ w. refl, (λ w. refl, (λ w. refl, (λ w. refl, (λ w. refl, (λ w. refl, (λ w. refl, (λ w. refl, (λ w. refl, tt)))))))))
exchanges-none (p ∷ ps) = (λ w. refl, (λ w. refl, exchanges-none ps))

-- the entry at the place, in a world, makes a connection only where it is the accept
only-there : (input : List ℕ) (w : World) (place : ℕ) (c : Connection) → connection_in usual w (slice_get (copied input) place) ≡ Some c → place ≡ accept_place
only-there input w zero c h = absurd (none-some c h)
only-there input w (suc zero) c h = absurd (none-some c h)
only-there input w (suc (suc zero)) c h = absurd (none-some c h)
only-there input w (suc (suc (suc zero))) c h = absurd (none-some c h)
only-there input w (suc (suc (suc (suc zero)))) c h = absurd (none-some c h)
only-there input w (suc (suc (suc (suc (suc zero))))) c h = absurd (none-some c h)
only-there input w (suc (suc (suc (suc (suc (suc zero)))))) c h = absurd (none-some c h)
only-there input w (suc (suc (suc (suc (suc (suc (suc zero))))))) c h = refl
only-there input w (suc (suc (suc (suc (suc (suc (suc (suc place)))))))) c h =
    absurd (none-some c (sym (none-made (later input) (λ w. refl, exchanges-none (pieces input)) w place) ∙ h))

pub one-connection : (input : List ℕ) → HasOneConnection (copied input)
one-connection input = record {
  one = connects input;
  only = λ place c h. only-there input (after usual (take place (copied input))) place c h;
}

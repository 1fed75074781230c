-- What endpoints hear of a connection or a request that ended.
use Rattle.std.specs.Prelude.{◌≡◌, ◌≤◌, ℕ, ◌&&◌, ◌||◌, Bool, true, false, List, [], ◌∷◌, Option, Some, None, IfSome, is_some, option_map, if◌then◌else◌}
use Rattle.tpi_grammar.specs.declared.kind.Kind.TheVariants.{T_DISCON_IND}
use Rattle.tpi_prim.specs.Fields.{kind_in}
use Rattle.xti_base.specs.declared.kinds.Fd.{Fd}
use Rattle.xti_model.specs.declared.profile.Providers.{Providers}
use Rattle.xti_model.specs.Endpoint.{Endpoint, Disconnect, reset, find_number, without_number, is_target}
use Rattle.xti_model.specs.Links.{break, names, if_names}
use Rattle.xti_model.specs.World.{Change, at_endpoint, endpoint, place_of}
use Rattle.xti_end.specs.Frames.{disconnect_in}
use Rattle.xti_end.specs.Held.{Held, is_open_as, parts, with_parts, with_disconnect}
use Rattle.xti_lent.specs.Answers.{Changed, IsUnchanged}
use Rattle.xti_lent.specs.Fit.{SameCells}
use Rattle.xti_lent.specs.Lending.{Lending, cells, held_at}
use Rattle.xti_lent.specs.Lends.{IsHeld}
use Rattle.xti_switch.specs.declared.notices.News.{News}
use Rattle.xti_switch.specs.declared.notices.News.TheVariants as news
use Rattle.xti_switch.specs.declared.notices.Notice.{Notice}

-- whether the news concern the endpoint: it has that peer, holds that request, or waits for that answer
abbrev pub concerns : News → Endpoint → Bool
concerns (news.Broken by) e = names by.0 e.peer
concerns (news.TakenBack number) e = is_some (find_number number.0 e.pending) || is_some (find_number number.0 e.outstanding)
concerns (news.GivenUp listener number) e = is_target listener.0 number.0 e.target
concerns news.Rejected e = true

-- what they make of it, where this disconnect tells them
abbrev pub heard : News → Disconnect → Endpoint → Endpoint
heard (news.Broken by) d e = if_names by.0 (λ x. with_disconnect d (reset x)) e
heard (news.TakenBack number) d e =
    if is_some (find_number number.0 e.pending) then record e { pending = without_number number.0 e.pending } else
    if is_some (find_number number.0 e.outstanding) then with_disconnect d e else e
heard (news.GivenUp listener number) d e = if is_target listener.0 number.0 e.target then record (with_disconnect d e) { target = None } else e
heard news.Rejected d e = record (with_disconnect d e) { target = None }

-- the number that the disconnect tells: that of a request that was taken back
abbrev pub told_number : News → ℕ
told_number (news.TakenBack number) = number.0
told_number _ = 0

-- the place is of an endpoint that is open with the descriptor, and that the news concern
abbrev pub is_told : Providers → ℕ → News → Held → Bool
is_told p fd n h = is_open_as p fd h && concerns n (parts h)

-- it hears them where they concern it; how much room is left for disconnects is said apart
abbrev pub Hears : Providers → ℕ → News → Disconnect → Held → Held → Type 0
Hears p fd n d old new = new ≡ (if is_told p fd n old then record (with_parts (heard n d) old) { spare_disconnects = new.spare_disconnects } else old)

-- what a notice changes, and what one changes that may be
abbrev pub telling : Notice → Change
telling n = at_endpoint n.to.0 (heard n.news (disconnect_in n.frame))

abbrev pub telling_any : Option Notice → List Change
telling_any None = []
telling_any (Some n) = telling n ∷ []

-- one disconnect more is taken with no memory
abbrev pub HasRoom : Held → Type 0
HasRoom h = 1 ≤ h.spare_disconnects

-- the notice is a disconnect, its place is lent, and there is room for it if it concerns the endpoint there
pub record IsReady (l : Lending) (n : Notice) : Type 0 where
  pub kind : kind_in n.frame ≡ T_DISCON_IND
  pub there : IsHeld l n.to.0
  pub room : IfSome (held_at l (place_of l.providers n.to.0)) (λ h. concerns n.news (parts h) ≡ true → HasRoom h)

-- room may be taken; the cells, and what is ready, stay
pub record TakesRoom (old new : Lending) : Type 0 where
  pub unchanged : IsUnchanged old new
  pub kept : SameCells old new
  pub registry : new.registry ≡ old.registry
  pub ready : (n : Notice) → IsReady old n → IsReady new n

-- who hears the first of two notices is not concerned by the second any more
abbrev pub Silences : Lending → Notice → Notice → Type 0
Silences l n m = IfSome (endpoint l.providers (cells l) n.to.0) (λ e. concerns n.news e ≡ true → concerns m.news (heard n.news (disconnect_in n.frame) e) ≡ false)

-- what one of them does not silence stays ready for it; and where there may be none
abbrev pub KeepsReady : Lending → Lending → Notice → Type 0
KeepsReady old new n = (other : Notice) → Silences old n other → IsReady old other → IsReady new other

abbrev pub KeepsReadyAny : Lending → Lending → Option Notice → Type 0
KeepsReadyAny old new o = (other : Notice) → IfSome o (λ n. Silences old n other) → IsReady old other → IsReady new other

-- a notice of a rejection stays ready
abbrev pub KeepsRejections : Lending → Lending → Type 0
KeepsRejections old new = (n : Notice) → n.news ≡ news.Rejected → IsReady old n → IsReady new n

-- the notice has these news for the endpoint with the descriptor
pub record IsNotice (to : Fd) (n : News) (reason : ℕ) (udata : List ℕ) (notice : Notice) : Type 0 where
  pub receiver : notice.to ≡ to
  pub told : notice.news ≡ n
  pub disconnect : disconnect_in notice.frame ≡ record { reason = reason; number = told_number n; udata = udata }

-- a notice exactly where there are news
abbrev pub IsNoticeOf : Option (Fd × News) → ℕ → List ℕ → Option Notice → Type 0
IsNoticeOf None reason udata None = Unit {0}
IsNoticeOf None reason udata (Some n) = ⊥
IsNoticeOf (Some m) reason udata None = ⊥
IsNoticeOf (Some m) reason udata (Some n) = IsNotice m.0 m.1 reason udata n

-- the peer hears where an endpoint ends its connection, and the listener that it asks where it takes its request back
abbrev pub peer_news : Fd → Endpoint → Option (Fd × News)
peer_news fd e = option_map (λ peer. (record { 0 = peer }, news.Broken fd)) e.peer

abbrev pub listener_news : Endpoint → Option (Fd × News)
listener_news e = option_map (λ t. (record { 0 = t.listener }, news.TakenBack (record { 0 = t.number }))) e.target

-- the places of both are lent
pub record CanBreak (l : Lending) (e : Endpoint) : Type 0 where
  pub peer : IfSome e.peer (IsHeld l)
  pub listener : IfSome e.target (λ t. IsHeld l t.listener)

-- it has no peer and asks nobody
pub record HasNoLinks (e : Endpoint) : Type 0 where
  pub peer : e.peer ≡ None
  pub target : e.target ≡ None

-- the open endpoint's connection or request ended so
abbrev pub Breaks : Lending → Lending → ℕ → ℕ → List ℕ → Type 0
Breaks old new fd reason udata = IfSome (endpoint old.providers (cells old) fd) (λ e. Changed (break fd e reason udata) old new)

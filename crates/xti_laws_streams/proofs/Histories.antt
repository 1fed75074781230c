-- The laws of connections hold of every legal history.
use Rattle.std.proofs.Common.{ℕ, Bool, true, false, List, [], ◌∷◌, ◌++◌, ◌+◌, ◌≡◌, refl, sym, ap, ◌∙◌, subst, not, ◌||◌, ◌&&◌, take, drop, slice_get, append_assoc, Option, Some, None, is_some}
use Rattle.std.proofs.lemmas.Bool.{false≢true}
use Rattle.std.proofs.lemmas.List.{append-nil, take-append-drop}
use Rattle.std.specs.Prelude.{option_and_then}
use Rattle.xti_base.specs.declared.kinds.Fd.{Fd}
use Rattle.xti_base.specs.declared.kinds.Seq.{Seq}
use Rattle.xti_base.specs.declared.kinds.State.{State}
use Rattle.xti_model.specs.declared.call.Call.{Call}
use Rattle.xti_model.specs.declared.call.Call.TheVariants as call
use Rattle.xti_model.specs.declared.entry.Act.{Act}
use Rattle.xti_model.specs.declared.entry.Act.TheVariants as act
use Rattle.xti_model.specs.declared.entry.Outcome.{Outcome}
use Rattle.xti_model.specs.declared.entry.Outcome.TheVariants.{Done, Part}
use Rattle.xti_model.specs.declared.entry.Reply.TheVariants as reply
use Rattle.xti_model.specs.declared.entry.Entry.{Entry}
use Rattle.xti_model.specs.declared.profile.Providers.{Providers}
use Rattle.xti_model.specs.Endpoint.{Endpoint}
use Rattle.xti_model.specs.World.{World, opening, endpoint}
use Rattle.xti_model.specs.Links.{is_linked, if_back}
use Rattle.xti_model.specs.Sending.{waiting_of}
use Rattle.xti_model.specs.Step.{step, plan}
use Rattle.xti_model.specs.History.{Going, doing, made_by, unfinished, step_at, left_by, after_from, after, LegalFrom, Legal}
use Rattle.xti_model.specs.Streams.{Made, Connection, connection, connection_in, connection_of, made_from, is_made_by, is_over, sent_made, got_made}
use Rattle.xti_model.proofs.Appending.{take-one_more}
use Rattle.xti_laws_streams.proofs.ConnectionEnds.{End, new_end, after_steps}
use Rattle.xti_laws_streams.proofs.Invariant.{View, view, waiting_in, HasView, Prefixes, GotAll, PeerGone, rest_left, was_broken, SoundConnection, SoundWhere}
use Rattle.xti_laws.specs.Requests.{SoundLinks}
use Rattle.xti_model.specs.SentBytes.{AllSendBytes}
use Rattle.xti_laws_streams.proofs.UnderWay.{SendGoesOn}
use Rattle.xti_laws.proofs.RequestHistories.{Sound, left-sound, after-sound, opening-sound}
use Rattle.xti_laws_streams.specs.Laws.{end_of, got_at, sent_to, PrefixLaw, WaitingLaw, ReleaseLaw, Prefix, is_unbroken, receives_release}
use Rattle.xti_laws_streams.proofs.FoldedStreams.{folded-stream, folded-test, folded-fd}
use Rattle.xti_laws.proofs.StepWays.{some-is, none-is}
use Rattle.xti_laws_streams.proofs.Effects.{rest-prefixes, gone-prefixes}
use Rattle.xti_laws_streams.proofs.OneStep.{swap}
use Rattle.xti_laws_streams.proofs.UnderWay.{doing-goes_on, next-goes_on}
use Rattle.xti_laws_streams.proofs.AlongHistory.{FittingEntry, fitting-entry, left-is, along}
use Rattle.xti_laws_streams.proofs.BegunByAccept.{Begun, accept-begins}

-- Legal histories in two parts.

legal-after : (p : Providers) (w : World) (past xs ys : List Entry) → LegalFrom p w past (xs ++ ys) → LegalFrom p (after_from p w past xs) (past ++ xs) ys
legal-after p w past [] ys l = subst (λ q. LegalFrom p w q ys) (sym (append-nil past)) l
legal-after p w past (x ∷ xs) ys l = subst (λ q. LegalFrom p (after_from p (left_by w (step_at p w past x)) (past ++ x ∷ []) xs) q ys) (append_assoc past (x ∷ []) xs) (legal-after p (left_by w (step_at p w past x)) (past ++ x ∷ []) xs ys l.1)

legal-before : (p : Providers) (w : World) (past xs ys : List Entry) → LegalFrom p w past (xs ++ ys) → LegalFrom p w past xs
legal-before p w past [] ys l = tt
legal-before p w past (x ∷ xs) ys l = (l.0, legal-before p (left_by w (step_at p w past x)) (past ++ x ∷ []) xs ys l.1)

after-append : (p : Providers) (w : World) (past xs ys : List Entry) → after_from p w past (xs ++ ys) ≡ after_from p (after_from p w past xs) (past ++ xs) ys
after-append p w past [] ys = ap (λ q. after_from p w q ys) (sym (append-nil past))
after-append p w past (x ∷ xs) ys = after-append p (left_by w (step_at p w past x)) (past ++ x ∷ []) xs ys ∙ ap (λ q. after_from p (after_from p (left_by w (step_at p w past x)) (past ++ x ∷ []) xs) q ys) (append_assoc past (x ∷ []) xs)

bytes-before : (xs ys : List Entry) → AllSendBytes (xs ++ ys) → AllSendBytes xs
bytes-before [] ys b = tt
bytes-before (x ∷ xs) ys b = (b.0, bytes-before xs ys b.1)

bytes-after : (xs ys : List Entry) → AllSendBytes (xs ++ ys) → AllSendBytes ys
bytes-after [] ys b = b
bytes-after (x ∷ xs) ys b = bytes-after xs ys b.1

-- after legal entries each unfinished send has bytes left
all-go_on : (p : Providers) (w : World) (past es : List Entry) → LegalFrom p w past es → AllSendBytes es → ((n : ℕ) → SendGoesOn (unfinished past n)) → (n : ℕ) → SendGoesOn (unfinished (past ++ es) n)
all-go_on p w past [] l b r n = subst (λ q. SendGoesOn (unfinished q n)) (sym (append-nil past)) (r n)
all-go_on p w past (e ∷ es) l b r n =
    let i : FittingEntry p w past e = fitting-entry p w past e l.0 in
    subst (λ q. SendGoesOn (unfinished q n)) (append_assoc past (e ∷ []) es)
    (all-go_on p (left_by w (step_at p w past e)) (past ++ e ∷ []) es l.1 b.1 (next-goes_on p w past e i.g i.s r (doing-goes_on past e i.g (r e.worker) b.0 i.is_doing) i.is_doing i.is_step i.outcome) n)

-- The entry of an accept.

-- the entry is an accept that answered Ok, of this connection
record Accepted (p : Providers) (w : World) (e : Entry) (c : Connection) : Type 0 where
  fd : Fd
  resfd : Fd
  seq : Seq
  options : List ℕ
  udata : List ℕ
  is_accept : e.act ≡ act.Begin (call.TAccept fd resfd seq options udata)
  is_ok : e.outcome ≡ Done reply.Plain
  is_between : option_and_then (connection_of p resfd.0 seq.0) (endpoint p w fd.0) ≡ Some c

accepted-by : (p : Providers) (w : World) (c : Connection) (worker : ℕ) (a : Act) (o : Outcome) (after : State) → connection_in p w (Some (record { worker = worker; act = a; outcome = o; after = after })) ≡ Some c → Accepted p w (record { worker = worker; act = a; outcome = o; after = after }) c
accepted-by p w c worker act.More o after h = absurd (none-is c h)
accepted-by p w c worker (act.Begin (call.TAccept fd resfd seq options udata)) (Done reply.Plain) after h = record { fd = fd; resfd = resfd; seq = seq; options = options; udata = udata; is_accept = refl; is_ok = refl; is_between = h }
accepted-by p w c worker (act.Begin (call.TAccept fd resfd seq options udata)) (Done other) after h = absurd (none-is c h)
accepted-by p w c worker (act.Begin (call.TAccept fd resfd seq options udata)) (Part n) after h = absurd (none-is c h)
accepted-by p w c worker (act.Begin other) o after h = absurd (none-is c h)

-- an entry that begins a call does its first step
begun-is : (past : List Entry) (e : Entry) (g : Going) (c : Call) → e.act ≡ act.Begin c → doing past e ≡ Some g → g.call ≡ c
begun-is past e g c a d = go (unfinished past e.worker) (ap (made_by (unfinished past e.worker)) (sym a) ∙ d)
  where
    go : (u : Option Going) → made_by u (act.Begin c) ≡ Some g → g.call ≡ c
    go None h = ap (λ z. z.call) (sym (some-is _ g h))
    go (Some u) h = absurd (none-is g h)

begun-here : (p : Providers) (w : World) (past : List Entry) (e : Entry) (c : Connection) → SoundLinks p w → (i : FittingEntry p w past e) → Accepted p w e c → Begun p i.s.world c
unfolding step plan
begun-here p w past e c f i a = accept-begins p w a.fd.0 a.resfd.0 a.seq.0 a.options a.udata c i.s f
    (subst (λ z. step p w z i.g.so_far ≡ Some i.s) (begun-is past e i.g (call.TAccept a.fd a.resfd a.seq a.options a.udata) a.is_accept i.is_doing) i.is_step)
    (sym i.outcome ∙ a.is_ok) a.is_between

-- what holds at the end of a history that is entries, an accept, and more entries
sound-after : (p : Providers) (pre : List Entry) (e : Entry) (post : List Entry) (c : Connection) → Legal p (pre ++ e ∷ post) → AllSendBytes (pre ++ e ∷ post) → connection_in p (after p pre) (Some e) ≡ Some c
    → SoundConnection p (after p (pre ++ e ∷ post)) c (after_steps c (new_end c.responder) (made_from (pre ++ e ∷ []) post)) (after_steps c (new_end c.caller) (made_from (pre ++ e ∷ []) post))
sound-after p pre e post c l b k =
    let l' = legal-after p (opening p) [] pre (e ∷ post) l in
    let f : Sound p (after p pre) = after-sound p (opening p) [] pre (opening-sound p) in
    let b' = bytes-after pre (e ∷ post) b in
    let r = all-go_on p (opening p) [] pre (legal-before p (opening p) [] pre (e ∷ post) l) (bytes-before pre (e ∷ post) b) (λ n. tt) in
    let i : FittingEntry p (after p pre) pre e = fitting-entry p (after p pre) pre e l'.0 in
    let begun : Begun p i.s.world c = begun-here p (after p pre) pre e c f.links i (accepted-by p (after p pre) c e.worker e.act e.outcome e.after k) in
    subst (λ z. SoundConnection p z c (after_steps c (new_end c.responder) (made_from (pre ++ e ∷ []) post)) (after_steps c (new_end c.caller) (made_from (pre ++ e ∷ []) post))) (sym (after-append p (opening p) [] pre (e ∷ post)))
    (along p (left_by (after p pre) (step_at p (after p pre) pre e)) c (new_end c.responder) (new_end c.caller) (pre ++ e ∷ []) post (left-sound p (after p pre) (doing pre e) f) l'.1 b'.1
    (next-goes_on p (after p pre) pre e i.g i.s r (doing-goes_on pre e i.g (r e.worker) b'.0 i.is_doing) i.is_doing i.is_step i.outcome)
    begun.differ
    (subst (λ z. SoundConnection p z c (new_end c.responder) (new_end c.caller)) (sym (left-is p (after p pre) pre e i)) begun.sound))

-- what holds at the end of a history of the connection that was accepted at this place
pub sound-at : (p : Providers) (entries : List Entry) (place : ℕ) (c : Connection) → Legal p entries → AllSendBytes entries → connection p entries place ≡ Some c
    → SoundConnection p (after p entries) c (after_steps c (new_end c.responder) (made_from (take (place + 1) entries) (drop (place + 1) entries))) (after_steps c (new_end c.caller) (made_from (take (place + 1) entries) (drop (place + 1) entries)))
sound-at p entries place c l b k = go (slice_get entries place) refl k
  where
    go : (o : Option Entry) → slice_get entries place ≡ o → connection_in p (after p (take place entries)) o ≡ Some c
        → SoundConnection p (after p entries) c (after_steps c (new_end c.responder) (made_from (take (place + 1) entries) (drop (place + 1) entries))) (after_steps c (new_end c.caller) (made_from (take (place + 1) entries) (drop (place + 1) entries)))
    go None i k = absurd (none-is c k)
    go (Some e) i k =
        let first : take (place + 1) entries ≡ take place entries ++ e ∷ [] = take-one_more entries place e i in
        let whole : take place entries ++ e ∷ drop (place + 1) entries ≡ entries = sym (append_assoc (take place entries) (e ∷ []) (drop (place + 1) entries)) ∙ (ap (λ z. z ++ drop (place + 1) entries) (sym first) ∙ take-append-drop (place + 1) entries) in
        subst (λ z. SoundConnection p (after p z) c (after_steps c (new_end c.responder) (made_from (take (place + 1) entries) (drop (place + 1) entries))) (after_steps c (new_end c.caller) (made_from (take (place + 1) entries) (drop (place + 1) entries)))) whole
        (subst (λ z. SoundConnection p (after p (take place entries ++ e ∷ drop (place + 1) entries)) c (after_steps c (new_end c.responder) (made_from z (drop (place + 1) entries))) (after_steps c (new_end c.caller) (made_from z (drop (place + 1) entries)))) (sym first)
        (sound-after p (take place entries) e (drop (place + 1) entries) c (subst (Legal p) (sym whole) l) (subst AllSendBytes (sym whole) b) k))

-- What it says of x, the end that receives.

prefix-held : (p : Providers) (w : World) (c : Connection) (x y : End) (b d : Bool) → SoundWhere p w c x y b d → Prefixes x y
prefix-held p w c x y false false h = rest-prefixes x y h.v h.x_end.holds_rest
prefix-held p w c x y false true h = gone-prefixes x y h.v h.peer_gone
prefix-held p w c x y true false h = h.other
prefix-held p w c x y true true h = h.one

released-held : (p : Providers) (w : World) (c : Connection) (x y : End) (b d : Bool) → SoundWhere p w c x y b d → x.got_release ≡ true → GotAll x y
released-held p w c x y false false h r = (h.x_end.released r).2
released-held p w c x y false true h r = (h.released r).1
released-held p w c x y true false h r = (h.other_released r).1
released-held p w c x y true true h r = h.one_released r

waits-as : (k : Bool) (e : Endpoint) (v : View) → view e ≡ v → waiting_of k e ≡ waiting_in k v
waits-as true e v h = ap (λ u. u.expedited) h
waits-as false e v h = ap (λ u. u.normal) h

view-of_open : (v : View) (o : Option Endpoint) (e : Endpoint) → HasView v o → o ≡ Some e → view e ≡ v
view-of_open v o e l i = subst (HasView v) i l

unlinked-none : (p : Providers) (w : World) (fd : ℕ) (e : Endpoint) → e.peer ≡ None → is_linked p w fd e ≡ false
unlinked-none p w fd e h = ap (λ o. is_some (option_and_then (λ peer. option_and_then (if_back fd) (endpoint p w peer)) o)) h

waiting-held : (p : Providers) (w : World) (c : Connection) (x y : End) (d : Bool) → SoundWhere p w c x y false d → (k : Bool) (e : Endpoint) → endpoint p w x.fd ≡ Some e → is_unbroken p w x.fd e ≡ true → x.got k ++ waiting_of k e ≡ y.sent k
waiting-held p w c x y false h k e i q = ap (λ l. x.got k ++ l) (waits-as k e h.v (view-of_open h.v (endpoint p w x.fd) e h.x_end.here i)) ∙ h.x_end.holds_rest k
waiting-held p w c x y true h k e i q = of_gone h.peer_gone
  where
    like : view e ≡ h.v
    like = view-of_open h.v (endpoint p w x.fd) e h.here i

    of_gone : PeerGone x y h.v → x.got k ++ waiting_of k e ≡ y.sent k
    of_gone (rest_left n r) = ap (λ z. x.got k ++ z) (waits-as k e h.v like) ∙ r k
    of_gone (was_broken n d a b r) = absurd (false≢true (sym (neither (is_linked p w x.fd e) (is_some e.release) (unlinked-none p w x.fd e (ap (λ u. u.peer) like ∙ n)) (ap (λ u. u.release) like ∙ d)) ∙ q))
      where
        neither : (a b : Bool) → a ≡ false → b ≡ false → (a || b) ≡ false
        neither true b m n = m
        neither false b m n = n

module _ (p : Providers) (entries : List Entry) (l : Legal p entries) (b : AllSendBytes entries) where
  abbrev steps : ℕ → List Made
  steps place = made_from (take (place + 1) entries) (drop (place + 1) entries)

  -- an end after all steps of the history
  abbrev the_end : ℕ → Connection → Bool → End
  the_end place c r = after_steps c (new_end (end_of c r)) (steps place)

  was-live : (over made after : Bool) → (not over && made) ≡ true → after ≡ (over || after)
  was-live true made after h = absurd (false≢true h)
  was-live false made after h = refl

  -- either end towards the other
  held : (place : ℕ) (c : Connection) (r : Bool) → connection p entries place ≡ Some c → SoundWhere p (after p entries) c (the_end place c r) (the_end place c (not r)) (the_end place c r).is_over (the_end place c (not r)).is_over
  held place c true k = sound-at p entries place c l b k
  held place c false k = swap p (after p entries) c (the_end place c true) (the_end place c false) (the_end place c true).is_over (the_end place c false).is_over (sound-at p entries place c l b k)

  got-is : (place : ℕ) (c : Connection) (r k : Bool) → (the_end place c r).got k ≡ got_at entries place c r k
  got-is place c r k = folded-stream c (λ x. x.got k) (got_made c k) (λ x m. refl) (new_end (end_of c r)) (steps place)

  sent-is : (place : ℕ) (c : Connection) (r k : Bool) → (the_end place c (not r)).sent k ≡ sent_to entries place c r k
  sent-is place c r k = folded-stream c (λ x. x.sent k) (sent_made c k) (λ x m. refl) (new_end (end_of c (not r))) (steps place)

  pub prefix-law : PrefixLaw p entries
  prefix-law place c r k i =
      let h : Prefix ((the_end place c r).got k) ((the_end place c (not r)).sent k) = prefix-held p (after p entries) c (the_end place c r) (the_end place c (not r)) (the_end place c r).is_over (the_end place c (not r)).is_over (held place c r i) k in
      record { rest = h.rest; is_rest = ap (λ z. z ++ h.rest) (sym (got-is place c r k)) ∙ (h.is_rest ∙ sent-is place c r k) }

  pub release-law : ReleaseLaw p entries
  release-law place c r k i j = sym (got-is place c r k)
      ∙ (released-held p (after p entries) c (the_end place c r) (the_end place c (not r)) (the_end place c r).is_over (the_end place c (not r)).is_over (held place c r i) (folded-test c (λ x. x.got_release) receives_release (λ x m h. refl) (new_end (end_of c r)) (steps place) ∙ j) k
      ∙ sent-is place c r k)

  pub waiting-law : WaitingLaw p entries
  waiting-law place c r k e i n o q =
      let x = the_end place c r in
      let fd : x.fd ≡ end_of c r = folded-fd c (new_end (end_of c r)) (steps place) in
      let alive : x.is_over ≡ false = folded-test c (λ x. x.is_over) (λ m. is_over m.after) (λ x m h. was-live x.is_over (is_made_by x.fd m) (is_over m.after) h) (new_end (end_of c r)) (steps place) ∙ n in
      ap (λ z. z ++ waiting_of k e) (sym (got-is place c r k))
      ∙ (waiting-held p (after p entries) c x (the_end place c (not r)) (the_end place c (not r)).is_over (subst (λ z. SoundWhere p (after p entries) c x (the_end place c (not r)) z (the_end place c (not r)).is_over) alive (held place c r i)) k e
      (ap (endpoint p (after p entries)) fd ∙ o) (ap (λ z. is_unbroken p (after p entries) z e) fd ∙ q)
      ∙ sent-is place c r k)

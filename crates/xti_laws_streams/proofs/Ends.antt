-- What a socket received at an end is what the end got in its life.
use Rattle.std.proofs.Common.{ℕ, Bool, true, false, List, [], ◌∷◌, ◌++◌, ◌+◌, ◌≡◌, refl, sym, ap, ap₂, ◌∙◌, subst, cond, ◌||◌, take, drop, filter, append_assoc}
use Rattle.std.proofs.lemmas.Bool.{false≢true}
use Rattle.std.proofs.lemmas.List.{append-nil, take-append-drop}
use Rattle.std.proofs.lemmas.List.Folds.{list_any-append}
use Rattle.std.proofs.lemmas.Grind.{flat_map-append}
use Rattle.std.specs.Prelude.{flat_map, option_map}
use Rattle.std.specs.List.{list_any}
use Rattle.xti_base.specs.declared.kinds.Fd.{Fd}
use Rattle.xti_model.specs.declared.entry.Entry.{Entry}
use Rattle.xti_model.specs.declared.profile.Providers.{Providers}
use Rattle.xti_model.specs.World.{World, opening}
use Rattle.xti_model.specs.History.{Legal, LegalFrom, left_by, step_at, own, unfinished}
use Rattle.xti_model.specs.SentBytes.{AllSendBytes}
use Rattle.xti_model.specs.Streams.{Made, Connection, made_of, add, made_from, is_made_by, got_made}
use Rattle.xti_verbs.specs.Verbs.{verb_of, answer_to, MayAnswer}
use Rattle.xti_laws.proofs.InForm.{in-form}
use Rattle.xti_laws_streams.specs.Laws.{Prefix, end_of, sent_to, receives_release, received_release}
use Rattle.xti_laws_streams.proofs.AlongHistory.{FittingEntry, fitting-entry}
use Rattle.xti_laws_streams.proofs.Histories.{prefix-law, release-law}
use Rattle.xti_sock.specs.Socks.{takes_release, was_released}
use Rattle.xti_sock.specs.Streams.{input}
use Rattle.xti_sock.specs.Streams as socket
use Rattle.xti_laws_streams.specs.Sockets.{IsSocketsEnd, end_fd, until_accept, GetsItsStream, GetsPrefix, GetsAll}
use Rattle.xti_laws_streams.proofs.ReceiveSteps.{IsNoReceive, IsReceipt, next-no_receive, entry-got, entry-release}
use Rattle.xti_laws_streams.proofs.Lives.{got-in_life, released-in_life}
use Rattle.xti_laws_streams.proofs.Entries.{own-input, own-released, no-input, no-release}

module _ (p : Providers) (c : Connection) (fd : Fd) (stream : c.has_ends ≡ false) where
  abbrev NoneUnfinished : List Entry → Type 0
  NoneUnfinished past = (n : ℕ) → IsNoReceive (unfinished past n)

  abbrev gets : Made → List ℕ
  gets m = got_made c false m

  -- the steps of the descriptor's calls
  abbrev steps : List Entry → List Entry → List Made
  steps past es = filter (is_made_by fd.0) (made_from past es)

  -- the entries after a past give what their steps got, and take a release only where those do
  pub record AreFollowed (past es : List Entry) : Type 0 where
    pub got : input fd es ≡ flat_map gets (steps past es)
    pub release : was_released fd es ≡ true → list_any receives_release (steps past es) ≡ true

  -- ---- one entry more

  joined : (b : Bool) (m : Made) (ms : List Made) → cond b (gets m) [] ++ flat_map gets ms ≡ flat_map gets (cond b (m ∷ ms) ms)
  joined true m ms = refl
  joined false m ms = refl

  first-release : (b : Bool) (m : Made) (ms : List Made) → b ≡ true → receives_release m ≡ true → list_any receives_release (cond b (m ∷ ms) ms) ≡ true
  first-release true m ms i h = ap (λ r. r || list_any receives_release ms) h
  first-release false m ms i h = absurd (false≢true i)

  later-release : (b : Bool) (m : Made) (ms : List Made) → list_any receives_release ms ≡ true → list_any receives_release (cond b (m ∷ ms) ms) ≡ true
  later-release true m ms h = go (receives_release m)
    where
      go : (r : Bool) → (r || list_any receives_release ms) ≡ true
      go true = refl
      go false = h
  later-release false m ms h = h

  next : (w : World) (past es : List Entry) (e : Entry) (i : FittingEntry p w past e) → NoneUnfinished past → AreFollowed (past ++ e ∷ []) es → AreFollowed past (e ∷ es)
  next w past es e i r f = record {
    got = ap₂ (λ (xs ys : List ℕ). xs ++ ys) (entry-got c fd stream past e i.g (r e.worker) i.is_doing answers) f.got ∙ (joined (is_made_by fd.0 m) m (steps (past ++ e ∷ []) es) ∙ ap (λ ms. flat_map gets (filter (is_made_by fd.0) ms)) (sym made));
    release = λ h. ap (λ ms. list_any receives_release (filter (is_made_by fd.0) ms)) made ∙ released (takes_release fd e) refl h;
  }
    where
      m : Made
      m = made_of e i.g

      made : made_from past (e ∷ es) ≡ m ∷ made_from (past ++ e ∷ []) es
      made = ap (λ o. add (option_map (made_of e) o) (made_from (past ++ e ∷ []) es)) i.is_doing

      answers : MayAnswer (verb_of i.g.call) (answer_to e.outcome)
      answers = subst (λ o. MayAnswer (verb_of i.g.call) (answer_to o)) (sym i.outcome) (in-form p w i.g.call i.g.so_far i.s i.is_step).0

      released : (b : Bool) → takes_release fd e ≡ b → (takes_release fd e || was_released fd es) ≡ true → list_any receives_release (cond (is_made_by fd.0 m) (m ∷ steps (past ++ e ∷ []) es) (steps (past ++ e ∷ []) es)) ≡ true
      released true j h = let k : IsReceipt fd i.g.call e.outcome = entry-release fd past e i.g i.is_doing j in first-release (is_made_by fd.0 m) m (steps (past ++ e ∷ []) es) k.0 k.1
      released false j h = later-release (is_made_by fd.0 m) m (steps (past ++ e ∷ []) es) (f.release (ap (λ b. b || was_released fd es) (sym j) ∙ h))

  -- ---- all entries

  after-entry : (w : World) (past : List Entry) (e : Entry) → FittingEntry p w past e → NoneUnfinished past → NoneUnfinished (past ++ e ∷ [])
  after-entry w past e i r = next-no_receive p w past e i.g i.s r i.is_doing i.is_step i.outcome

  followed : (w : World) (past es : List Entry) → LegalFrom p w past es → NoneUnfinished past → AreFollowed past es
  followed w past [] l r = record { got = refl; release = λ h. h }
  followed w past (e ∷ es) l r =
      let i : FittingEntry p w past e = fitting-entry p w past e l.0 in
      next w past es e i r (followed (left_by w (step_at p w past e)) (past ++ e ∷ []) es l.1 (after-entry w past e i r))

  -- those after the first ones
  followed-after : (w : World) (past xs es : List Entry) → LegalFrom p w past (xs ++ es) → NoneUnfinished past → AreFollowed (past ++ xs) es
  followed-after w past [] es l r = subst (λ q. AreFollowed q es) (sym (append-nil past)) (followed w past es l r)
  followed-after w past (x ∷ xs) es l r =
      let i : FittingEntry p w past x = fitting-entry p w past x l.0 in
      subst (λ q. AreFollowed q es) (append_assoc past (x ∷ []) xs)
      (followed-after (left_by w (step_at p w past x)) (past ++ x ∷ []) xs es l.1 (after-entry w past x i r))

  pub followed-from : (entries : List Entry) (n : ℕ) → Legal p entries → AreFollowed (take n entries) (drop n entries)
  followed-from entries n l = followed-after (opening p) [] (take n entries) (drop n entries) (subst (Legal p) (sym (take-append-drop n entries)) l) (λ n. tt)

-- ---- the end of a socket

module _ (p : Providers) (entries : List Entry) (l : Legal p entries) (place : ℕ) (c : Connection) (responds : Bool) (number : ℕ) (h : IsSocketsEnd p entries place c responds number) where
  abbrev fd : Fd
  fd = end_fd c responds

  abbrev later : List Entry
  later = drop (place + 1) entries

  after_accept : AreFollowed p c fd h.stream (until_accept entries place) later
  after_accept = followed-from p c fd h.stream entries (place + 1) l

  later-input : input fd entries ≡ input fd later
  later-input =
      ap (input fd) (sym (take-append-drop (place + 1) entries)) ∙
      (flat_map-append (socket.got_at fd) (until_accept entries place) later ∙
      ap (λ (xs : List ℕ). xs ++ input fd later) (no-input fd (until_accept entries place) h.not_before))

  pub gets-stream : GetsItsStream entries place c responds number
  gets-stream = own-input fd number entries h.alone ∙ (later-input ∙ (after_accept.got ∙ got-in_life c (filter (is_made_by fd.0) (made_from (until_accept entries place) later)) h.not_after))

  later-released : was_released fd entries ≡ true → was_released fd later ≡ true
  later-released k =
      sym (ap (λ b. b || was_released fd later) (no-release fd (until_accept entries place) h.not_before)) ∙
      (sym (list_any-append (takes_release fd) (until_accept entries place) later) ∙
      (ap (was_released fd) (take-append-drop (place + 1) entries) ∙ k))

  released : was_released fd (own entries number) ≡ true → received_release entries place (end_of c responds) ≡ true
  released k =
      sym (released-in_life c (filter (is_made_by fd.0) (made_from (until_accept entries place) later)) h.not_after) ∙
      after_accept.release (later-released (own-released fd number entries k))

  pub gets-prefix : AllSendBytes entries → GetsPrefix entries place c responds number
  gets-prefix b = subst (λ xs. Prefix xs (sent_to entries place c responds false)) (sym gets-stream) (prefix-law p entries l b place c responds false h.connected)

  pub gets-all : AllSendBytes entries → GetsAll entries place c responds number
  gets-all b k = gets-stream ∙ release-law p entries l b place c responds false h.connected (released k)

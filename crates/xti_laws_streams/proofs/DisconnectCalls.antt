-- What t_close, t_snddis and t_rcvdis do: the life of the end is over; t_close and t_snddis cut its peer off.
use Rattle.std.proofs.Common.{ℕ, Bool, true, false, List, [], ◌∷◌, ◌++◌, ◌≡◌, refl, sym, ap, ◌∙◌, subst, cond, map, append_assoc, Some, None}
use Rattle.std.proofs.lemmas.Bool.{false≢true}
use Rattle.std.specs.Prelude.{drop}
use Rattle.xti_model.specs.declared.entry.Outcome.{Outcome}
use Rattle.xti_model.specs.declared.entry.Outcome.TheVariants.{Done}
use Rattle.xti_model.specs.declared.entry.Reply.TheVariants.{Plain, Overflow}
use Rattle.xti_model.specs.declared.profile.Providers.{Providers}
use Rattle.xti_model.specs.Endpoint.{Endpoint, find_number}
use Rattle.xti_model.specs.World.{World, Change, at_endpoint, changed}
use Rattle.xti_model.specs.Links.{at_linked, take_back, broken, break}
use Rattle.xti_model.specs.Plan.{Plan, plan_of}
use Rattle.xti_model.specs.Step.{Step, step_of}
use Rattle.xti_model.specs.History.{Going}
use Rattle.xti_model.specs.Streams.{Connection, is_over, got_by, sending_of}
use Rattle.xti_model.specs.Calls.Close as Close
use Rattle.xti_model.specs.Calls.Disconnect as Disconnect
use Rattle.xti_model.specs.Calls.Listen as Listen
use Rattle.xti_laws_streams.specs.Laws.{is_release_receipt}
use Rattle.xti_laws_streams.proofs.Invariant.{view}
use Rattle.xti_laws_streams.proofs.NonLinking.{AllNonLinking, append-non_linking, take_back-non_linking, callers-non_linking, of_own, closes_own, of_switch}
use Rattle.xti_laws_streams.proofs.Bystanders.{all-view}
use Rattle.xti_laws.proofs.StepWays.{never-loses}
use Rattle.xti_laws_streams.proofs.Effects.{TransfersNothing, breaks, leaves, PeerBecomes, cut_off}
use Rattle.xti_laws_streams.proofs.EffectsByWay.{EffectFor, EffectOf, transfers-nothing, by-effect, on-it, view-is, own-peer, Ended, own-ended, last-ended, closing-ended, append-ended, linked-gets}
use Rattle.xti_laws_streams.proofs.ReceiveCalls.{LiveEndpoint}
use Rattle.xti_laws.proofs.AcceptEnds.{not-asked}

-- the peer is cut off, and changes that link nobody leave it so
pub cut_off-peer : (p : Providers) (w : World) (x : ℕ) (e : Endpoint) (reason : ℕ) (udata : List ℕ) (rest : List Change) → AllNonLinking x None rest → PeerBecomes p w (changed p w (at_linked x e.peer (broken reason udata) ++ rest)) x (view e) cut_off
cut_off-peer p w x e reason udata rest m y u n i j t l = linked-gets p w x y e.peer (broken reason udata) u (cut_off u) rest i j (λ z q. ap cut_off q)
    (all-view x None y (cut_off u) (record { other = n; without_target = refl; unlinked = λ peer q k. refl }) rest m) l

break-shape : (x : ℕ) (e : Endpoint) (reason : ℕ) (udata : List ℕ) (rest : List Change) → break x e reason udata ++ rest ≡ at_linked x e.peer (broken reason udata) ++ (take_back e.target reason udata ++ rest)
break-shape x e reason udata rest = append_assoc (at_linked x e.peer (broken reason udata)) (take_back e.target reason udata) rest

module _ (p : Providers) (w : World) (c : Connection) (x : ℕ) (e : Endpoint) (g : Going) (a : LiveEndpoint p w c x e) (sends_not : sending_of g.call ≡ None) (releases_not : (o : Outcome) → is_release_receipt g.call o ≡ false) where
  nothing : (outcome : Outcome) → ((k : Bool) → got_by c k outcome ≡ []) → TransfersNothing c g outcome
  nothing outcome = transfers-nothing c g outcome sends_not (releases_not outcome)

  abbrev close_plan : Endpoint → Plan
  close_plan e = plan_of x e [] (Close.changes p x e) (Done Plain)

  close-shape : Close.changes p x e ≡ at_linked x e.peer (broken 5 []) ++ (take_back e.target 5 [] ++ (map (Close.give_up_caller x) (e.pending ++ e.outstanding) ++ Close.closing p x))
  close-shape = append_assoc (break x e 5 []) (map (Close.give_up_caller x) (e.pending ++ e.outstanding)) (Close.closing p x) ∙ break-shape x e 5 [] (map (Close.give_up_caller x) (e.pending ++ e.outstanding) ++ Close.closing p x)

  close-non_linking : AllNonLinking x None (take_back e.target 5 [] ++ (map (Close.give_up_caller x) (e.pending ++ e.outstanding) ++ Close.closing p x))
  close-non_linking = append-non_linking x None (take_back e.target 5 []) (map (Close.give_up_caller x) (e.pending ++ e.outstanding) ++ Close.closing p x) (take_back-non_linking x None e.target 5 [])
      (append-non_linking x None (map (Close.give_up_caller x) (e.pending ++ e.outstanding)) (Close.closing p x) (callers-non_linking x None (e.pending ++ e.outstanding)) (closes_own, (of_switch (Close.forget p x), tt)))

  close-ended : Ended p (changed p w (Close.changes p x e)) x
  close-ended = append-ended p w x (break x e 5 [] ++ map (Close.give_up_caller x) (e.pending ++ e.outstanding)) (Close.closing p x) (λ z. closing-ended p z x (Close.forget p x))

  pub close-effect : (s : Step) → step_of p w (Close.plan p w x) ≡ Some s → EffectOf p w c x (view e) g s
  close-effect s h = by-effect p w c x (view e) g (view-is p w x e a.is_open) (close_plan e) refl refl tt
      (λ q. breaks (nothing (Done Plain) (λ k. refl)) close-ended.is_over close-ended.names_nobody
      (subst (λ cs. PeerBecomes p w (changed p w cs) x (view e) cut_off) (sym close-shape) (cut_off-peer p w x e 5 [] (take_back e.target 5 [] ++ (map (Close.give_up_caller x) (e.pending ++ e.outstanding) ++ Close.closing p x)) close-non_linking)))
      (λ f. absurd (never-loses [] refl f))
      s (on-it p w x e close_plan s a.is_open h)

  abbrev snddis_plan : ℕ → List ℕ → Endpoint → Plan
  snddis_plan number udata e = plan_of x e (Disconnect.send_rows number udata e) (Disconnect.send_changes x number udata e) (Done Plain)

  snddis-took : (number : ℕ) (udata : List ℕ) → EffectFor p w c x (view e) g (Done Plain) (changed p w (break x e 4 udata ++ at_endpoint x Disconnect.idle ∷ []))
  snddis-took number udata =
      let over : Ended p (changed p w (break x e 4 udata ++ at_endpoint x Disconnect.idle ∷ [])) x = append-ended p w x (break x e 4 udata) (at_endpoint x Disconnect.idle ∷ []) (λ z. last-ended p z x Disconnect.idle (λ y. (refl, refl))) in
      breaks (nothing (Done Plain) (λ k. refl)) over.is_over over.names_nobody
      (subst (λ cs. PeerBecomes p w (changed p w cs) x (view e) cut_off) (sym (break-shape x e 4 udata (at_endpoint x Disconnect.idle ∷ [])))
      (cut_off-peer p w x e 4 udata (take_back e.target 4 udata ++ at_endpoint x Disconnect.idle ∷ []) (append-non_linking x None (take_back e.target 4 udata) (at_endpoint x Disconnect.idle ∷ []) (take_back-non_linking x None e.target 4 udata) (of_own Disconnect.idle (λ z y q. refl), tt))))

  pub snddis-effect : (number : ℕ) (udata : List ℕ) (s : Step) → step_of p w (Disconnect.send_plan p w x number udata) ≡ Some s → EffectOf p w c x (view e) g s
  snddis-effect number udata s h = by-effect p w c x (view e) g (view-is p w x e a.is_open) (snddis_plan number udata e) refl refl tt
      (λ q. subst (λ b. EffectFor p w c x (view e) g (Done Plain) (changed p w (cond b (Disconnect.reject x udata (find_number number e.outstanding)) (break x e 4 udata ++ at_endpoint x Disconnect.idle ∷ [])))) (sym (not-asked e.state a.live.in_connection)) (snddis-took number udata))
      (λ f. absurd (never-loses (Disconnect.send_rows number udata e) refl f))
      s (on-it p w x e (snddis_plan number udata) s a.is_open h)

  abbrev rcvdis_plan : ℕ → Endpoint → Plan
  rcvdis_plan umax e = plan_of x e (Disconnect.receive_rows umax e) (at_endpoint x Disconnect.received ∷ []) (Done (Disconnect.receive_reply (Disconnect.oldest e) umax))

  idle-now : (b : Bool) → b ≡ false → view (cond b (record (Listen.taken_out (Disconnect.oldest e).number e) { disconnects = drop 1 e.disconnects }) (Disconnect.idle e)) ≡ view (Disconnect.idle e)
  idle-now true h = absurd (false≢true (sym h))
  idle-now false h = refl

  rcvdis-ended : Ended p (changed p w (at_endpoint x Disconnect.received ∷ [])) x
  rcvdis-ended =
      let idle : view (Disconnect.received e) ≡ view (Disconnect.idle e) = idle-now (Disconnect.is_asked e) (not-asked e.state a.live.in_connection) in
      own-ended p w x e Disconnect.received a.is_open (ap (λ z. is_over z.state) idle) (ap (λ z. z.peer) idle)

  pub rcvdis-effect : (umax : ℕ) (s : Step) → step_of p w (Disconnect.receive_plan p w x umax) ≡ Some s → EffectOf p w c x (view e) g s
  rcvdis-effect umax s h = by-effect p w c x (view e) g (view-is p w x e a.is_open) (rcvdis_plan umax e) refl refl tt
      (λ q. leaves (nothing (rcvdis_plan umax e).outcome (λ k. refl)) rcvdis-ended.is_over rcvdis-ended.names_nobody (own-peer p w x (view e) Disconnect.received))
      (λ f q n. leaves (nothing (Done (Overflow (record { 0 = n }))) (λ k. refl)) rcvdis-ended.is_over rcvdis-ended.names_nobody (own-peer p w x (view e) Disconnect.received))
      s (on-it p w x e (rcvdis_plan umax) s a.is_open h)

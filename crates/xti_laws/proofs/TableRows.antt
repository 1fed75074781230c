-- Which rows the state table has for each move, and their counts.
use Rattle.std.proofs.Common.{ℕ, Bool, true, false, List, [], ◌∷◌, ◌≡◌, refl, sym, eqb, cond, not, ◌+◌, ◌-◌, ◌<◌, ◌≤◌, arith}
use Rattle.std.proofs.lemmas.Bool.{false≢true, lt-ltb, ltb-false, eqb-false, eq-eqb}
use Rattle.std.specs.Prelude.{nat_lt}
use Rattle.std.specs.List.{list_any}
use Rattle.xti_base.specs.Kinds.{same_state}
use Rattle.xti_base.specs.declared.kinds.State.{State}
use Rattle.xti_base.specs.declared.kinds.State.TheVariants.{T_UNINIT, T_UNBND, T_IDLE, T_OUTCON, T_INCON, T_DATAXFER, T_OUTREL, T_INREL}
use Rattle.xti_model.specs.Events.{sending, receiving, connected_or_asking}
use Rattle.xti_model.specs.StateTable.{Move, by_bind, by_unbind, by_connect, by_rcvconnect, by_listen, by_accept_here, by_accept_there, passed, by_snd, by_rcv, by_snddis, by_rcvdis, by_sndrel, by_rcvrel, by_datagram, by_show, by_close, is_in_table}
use Rattle.xti_laws.specs.Counts.{count_after}
use Rattle.xti_laws.proofs.SteadyUpdates.{Standing, stands, after_sndrel, after_rcvrel, after_last, after_rcvdis, count_rcvdis}

abbrev pub In : State → List State → Type 0
In s states = list_any (same_state s) states ≡ true

-- a row of the table leads from a state and a count to a standing
abbrev pub LeadsTo : Move → State → ℕ → Standing → Type 0
LeadsTo m s n v = (not (same_state s T_UNINIT) ≡ true → is_in_table m s n v.state ≡ true) × (v.count ≡ count_after m s n)

pub bind-row : (s : State) (n : ℕ) → In s (T_UNBND ∷ []) → LeadsTo by_bind s n (stands T_IDLE n)
bind-row T_UNBND n h = (λ i. refl, refl)
bind-row other n h = absurd (false≢true h)

pub unbind-row : (s : State) (n : ℕ) → In s (T_IDLE ∷ []) → LeadsTo by_unbind s n (stands T_UNBND n)
unbind-row T_IDLE n h = (λ i. refl, refl)
unbind-row other n h = absurd (false≢true h)

pub connect-row : (s : State) (n : ℕ) → In s (T_IDLE ∷ []) → LeadsTo by_connect s n (stands T_OUTCON n)
connect-row T_IDLE n h = (λ i. refl, refl)
connect-row other n h = absurd (false≢true h)

pub confirm-row : (s : State) (n : ℕ) → In s (T_OUTCON ∷ []) → LeadsTo by_rcvconnect s n (stands T_DATAXFER n)
confirm-row T_OUTCON n h = (λ i. refl, refl)
confirm-row other n h = absurd (false≢true h)

pub listen-row : (s : State) (n : ℕ) → In s (T_IDLE ∷ T_INCON ∷ []) → LeadsTo by_listen s n (stands T_INCON (n + 1))
listen-row T_IDLE n h = (λ i. refl, refl)
listen-row T_INCON n h = (λ i. refl, refl)
listen-row other n h = absurd (false≢true h)

pub passed-row : (s : State) (n : ℕ) → In s (T_UNBND ∷ T_IDLE ∷ []) → is_in_table passed s n T_DATAXFER ≡ true
passed-row T_UNBND n h = refl
passed-row T_IDLE n h = refl
passed-row other n h = absurd (false≢true h)

pub snd-row : (s : State) (n : ℕ) → In s sending → LeadsTo by_snd s n (stands s n)
snd-row T_DATAXFER n h = (λ i. refl, refl)
snd-row T_INREL n h = (λ i. refl, refl)
snd-row other n h = absurd (false≢true h)

pub rcv-row : (s : State) (n : ℕ) → In s receiving → LeadsTo by_rcv s n (stands s n)
rcv-row T_DATAXFER n h = (λ i. refl, refl)
rcv-row T_OUTREL n h = (λ i. refl, refl)
rcv-row other n h = absurd (false≢true h)

pub sndrel-row : (s : State) (n : ℕ) → In s sending → LeadsTo by_sndrel s n (stands (after_sndrel s) n)
sndrel-row T_DATAXFER n h = (λ i. refl, refl)
sndrel-row T_INREL n h = (λ i. refl, refl)
sndrel-row other n h = absurd (false≢true h)

pub rcvrel-row : (s : State) (n : ℕ) → In s receiving → LeadsTo by_rcvrel s n (stands (after_rcvrel s) n)
rcvrel-row T_DATAXFER n h = (λ i. refl, refl)
rcvrel-row T_OUTREL n h = (λ i. refl, refl)
rcvrel-row other n h = absurd (false≢true h)

pub datagram-row : (s : State) (n : ℕ) → In s (T_IDLE ∷ []) → LeadsTo by_datagram s n (stands s n)
datagram-row T_IDLE n h = (λ i. refl, refl)
datagram-row other n h = absurd (false≢true h)

pub show-row : (s : State) (n : ℕ) → LeadsTo by_show s n (stands s n)
show-row T_UNINIT n = (λ i. absurd (false≢true i), refl)
show-row other n = (λ i. refl, refl)

pub close-row : (s : State) (n : ℕ) → LeadsTo by_close s n (stands T_UNINIT 0)
close-row T_UNINIT n = (λ i. absurd (false≢true i), refl)
close-row other n = (λ i. refl, refl)

pub snddis-row : (s : State) (n : ℕ) → In s connected_or_asking → list_any (same_state s) (T_INCON ∷ []) ≡ false → LeadsTo by_snddis s n (stands T_IDLE n)
snddis-row T_INCON n h k = absurd (false≢true (sym k))
snddis-row T_OUTCON n h k = (λ i. refl, refl)
snddis-row T_DATAXFER n h k = (λ i. refl, refl)
snddis-row T_OUTREL n h k = (λ i. refl, refl)
snddis-row T_INREL n h k = (λ i. refl, refl)
snddis-row other n h k = absurd (false≢true h)

pub rcvdis-row : (s : State) (n : ℕ) → In s connected_or_asking → LeadsTo by_rcvdis s n (stands (after_rcvdis n s) (count_rcvdis n s))
rcvdis-row T_INCON n h = (λ i. go (eqb n 1) refl, refl)
  where
    go : (b : Bool) → eqb n 1 ≡ b → is_in_table by_rcvdis T_INCON n (cond (eqb n 1) T_IDLE T_INCON) ≡ true
    go true k = simp k refl
    go false k = simp k refl
rcvdis-row T_OUTCON n h = (λ i. refl, refl)
rcvdis-row T_DATAXFER n h = (λ i. refl, refl)
rcvdis-row T_OUTREL n h = (λ i. refl, refl)
rcvdis-row T_INREL n h = (λ i. refl, refl)
rcvdis-row other n h = absurd (false≢true h)

over-one : (n : ℕ) → 0 < n → eqb n 1 ≡ false → nat_lt 1 n ≡ true
over-one n h k = lt-ltb 1 n (let m : n ≡ 1 → ⊥ = eqb-false n 1 k in omega (arith, h, m))

pub reject-row : (s : State) (n : ℕ) → In s (T_INCON ∷ []) → 0 < n → LeadsTo by_snddis s n (stands (after_last n s) (n - 1))
reject-row T_INCON n h k = (λ i. go (eqb n 1) refl, refl)
  where
    go : (b : Bool) → eqb n 1 ≡ b → is_in_table by_snddis T_INCON n (cond (eqb n 1) T_IDLE T_INCON) ≡ true
    go true j = simp j refl
    go false j = simp (j, over-one n k j) refl
reject-row other n h k = absurd (false≢true h)

pub accept_there-row : (s : State) (n : ℕ) → In s (T_INCON ∷ []) → 0 < n → LeadsTo by_accept_there s n (stands (after_last n s) (n - 1))
accept_there-row T_INCON n h k = (λ i. go (eqb n 1) refl, refl)
  where
    go : (b : Bool) → eqb n 1 ≡ b → is_in_table by_accept_there T_INCON n (cond (eqb n 1) T_IDLE T_INCON) ≡ true
    go true j = simp j refl
    go false j = simp (j, over-one n k j) refl
accept_there-row other n h k = absurd (false≢true h)

pub accept_here-row : (s : State) (n : ℕ) → In s (T_INCON ∷ []) → 0 < n → nat_lt 1 n ≡ false → LeadsTo by_accept_here s n (stands T_DATAXFER (n - 1))
accept_here-row T_INCON n h k j = (λ i. simp (eq-eqb n 1 (let i : n ≤ 1 = ltb-false 1 n j in omega (arith, k, i))) refl, refl)
accept_here-row other n h k j = absurd (false≢true h)

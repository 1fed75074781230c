-- Too many sizes are refused whatever their sum is.
use Rattle.std.proofs.Common.{◌≡◌, ℕ, Bool, true, false, not, List, [], ◌∷◌, drop, Option, Some, None, refl}
use Rattle.xti_base.specs.declared.errno.Errno.{Errno}
use Rattle.xti_base.specs.declared.errno.Errno.TheVariants.{TNOTSUPPORT, TOUTSTATE, TBADDATA}
use Rattle.xti_base.specs.declared.kinds.State.TheVariants.{T_IDLE}
use Rattle.xti_model.specs.declared.profile.Providers.{Providers}
use Rattle.xti_model.specs.declared.entry.Outcome.TheVariants.{Done}
use Rattle.xti_model.specs.Arguments.{is_too_many}
use Rattle.xti_model.specs.Endpoint.{Endpoint}
use Rattle.xti_model.specs.Events.{is_state, receiving, some_wait}
use Rattle.xti_model.specs.Plan.{Plan, Row, first, refuses, if_open, plan_of}
use Rattle.xti_model.specs.Provider.{has_connections, has_datagrams}
use Rattle.xti_model.specs.Step.{step_by, step_of}
use Rattle.xti_model.specs.World.{World, endpoint, at_endpoint}
use Rattle.xti_model.specs.Calls.Datagrams.{receive_from, receive_plan, receive_rows}
use Rattle.xti_model.specs.Calls.Receive as Receive

third-refuses : (p : Providers) (w : World) (x y : Plan) → x.fd ≡ y.fd → (a b c : Bool) → c ≡ true → (r s t : Errno) (rows : List Row)
    → step_by p w x (first (refuses a r ∷ refuses b s ∷ refuses c t ∷ rows)) ≡ step_by p w y (first (refuses a r ∷ refuses b s ∷ refuses c t ∷ rows))
third-refuses p w x y h true b c e r s t rows = rw h refl
third-refuses p w x y h false true c e r s t rows = rw h refl
third-refuses p w x y h false false true e r s t rows = rw h refl
third-refuses p w x y h false false false e r s t rows = cc

too-many : (p : Providers) (w : World) (fd n m k amax omax : ℕ) (o : Option Endpoint) → is_too_many n ≡ true
    → step_of p w (if_open fd o (receive_from fd n m amax omax)) ≡ step_of p w (if_open fd o (receive_from fd n k amax omax))
too-many p w fd n m k amax omax None h = refl
too-many p w fd n m k amax omax (Some e) h =
    third-refuses p w (receive_from fd n m amax omax e) (receive_from fd n k amax omax e) refl (not (has_datagrams e.prov)) (not (is_state (T_IDLE ∷ []) e)) (is_too_many n) h TNOTSUPPORT TOUTSTATE TBADDATA (drop 3 (receive_rows n amax omax e))

pub sum-where-few : (p : Providers) (w : World) (fd n m k amax omax : ℕ) → (is_too_many n ≡ false → m ≡ k)
    → step_of p w (receive_plan p w fd n m amax omax) ≡ step_of p w (receive_plan p w fd n k amax omax)
sum-where-few p w fd n m k amax omax h = go (is_too_many n) refl
  where
    go : (b : Bool) → is_too_many n ≡ b → step_of p w (receive_plan p w fd n m amax omax) ≡ step_of p w (receive_plan p w fd n k amax omax)
    go false e = rw (h e) refl
    go true e = too-many p w fd n m k amax omax (endpoint p w fd) e

-- how much is received refuses nothing
pub rows-alike : (p : Providers) (w : World) (fd n m k amax omax : ℕ) → (receive_plan p w fd n m amax omax).rows ≡ (receive_plan p w fd n k amax omax).rows
rows-alike p w fd n m k amax omax = go (endpoint p w fd)
  where
    go : (o : Option Endpoint) → (if_open fd o (receive_from fd n m amax omax)).rows ≡ (if_open fd o (receive_from fd n k amax omax)).rows
    go None = refl
    go (Some e) = refl

-- t_rcv of the endpoint in so many sizes with that sum
abbrev data_from : Providers → ℕ → ℕ → ℕ → Endpoint → Plan
data_from p fd n m e = plan_of fd e (Receive.rows n e) (at_endpoint fd (Receive.received p m) ∷ []) (Done (Receive.got p (some_wait e.expedited) m e))

data-too-many : (p : Providers) (w : World) (fd n m k : ℕ) (o : Option Endpoint) → is_too_many n ≡ true
    → step_of p w (if_open fd o (data_from p fd n m)) ≡ step_of p w (if_open fd o (data_from p fd n k))
data-too-many p w fd n m k None h = refl
data-too-many p w fd n m k (Some e) h =
    third-refuses p w (data_from p fd n m e) (data_from p fd n k e) refl (not (has_connections e.prov)) (not (is_state receiving e)) (is_too_many n) h TNOTSUPPORT TOUTSTATE TBADDATA (drop 3 (Receive.rows n e))

-- the sum counts only where the sizes are few, also in t_rcvv
pub data-sum-where-few : (p : Providers) (w : World) (fd n m k : ℕ) → (is_too_many n ≡ false → m ≡ k)
    → step_of p w (Receive.plan p w fd n m) ≡ step_of p w (Receive.plan p w fd n k)
data-sum-where-few p w fd n m k h = go (is_too_many n) refl
  where
    go : (b : Bool) → is_too_many n ≡ b → step_of p w (Receive.plan p w fd n m) ≡ step_of p w (Receive.plan p w fd n k)
    go false e = rw (h e) refl
    go true e = data-too-many p w fd n m k (endpoint p w fd) e

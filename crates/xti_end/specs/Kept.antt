-- What stays true of an endpoint.
use Rattle.std.specs.Prelude.{◌≡◌, ◌<◌, ◌+◌, ℕ, [], Option, is_none, IfSome, true}
use Rattle.tpi_grammar.specs.declared.kind.Kind.TheVariants.{T_CONN_CON, T_ORDREL_IND}
use Rattle.xti_base.specs.declared.limits.TheConstants.{DESCRIPTORS}
use Rattle.xti_end.specs.declared.parts.Parts.{Parts}
use Rattle.xti_end.specs.declared.parts.Waiting.{Waiting}
use Rattle.xti_end.specs.Frames.{AreDatagrams, AreErrors, AreRequests, AreDisconnects, IsOf}

-- the generation can rise once more in 32 bits
abbrev pub CanClose : ℕ → Parts → Type 0
CanClose generation e = generation + 1 < DESCRIPTORS

-- a confirmation is a T_CONN_CON
abbrev pub IsConfirmed : Parts → Type 0
IsConfirmed e = IsOf T_CONN_CON e.connection.confirmation

-- a release is a T_ORDREL_IND
abbrev pub IsReleased : Parts → Type 0
IsReleased e = IsOf T_ORDREL_IND e.connection.release

-- an open endpoint can close; what waits is of its kind, and nothing waits at a closed place
pub record IsKept (generation : ℕ) (body : Option Parts) (w : Waiting) : Type 0 where
  pub counted : IfSome body (CanClose generation)
  pub confirmation : IfSome body IsConfirmed
  pub release : IfSome body IsReleased
  pub pending : AreRequests w.pending.items
  pub outstanding : AreRequests w.outstanding.items
  pub disconnects : AreDisconnects w.disconnects.items
  pub datagrams : AreDatagrams w.datagrams.pushed
  pub errors : AreErrors w.datagram_errors.items
  pub no_pending : is_none body ≡ true → w.pending.items ≡ []
  pub no_outstanding : is_none body ≡ true → w.outstanding.items ≡ []
  pub no_disconnects : is_none body ≡ true → w.disconnects.items ≡ []
  pub no_normal : is_none body ≡ true → w.normal.pushed ≡ []
  pub no_expedited : is_none body ≡ true → w.expedited.pushed ≡ []
  pub no_datagrams : is_none body ≡ true → w.datagrams.pushed ≡ []
  pub no_errors : is_none body ≡ true → w.datagram_errors.items ≡ []

-- What a provider offers.
use Rattle.std.specs.Prelude.{ℕ, ◌+◌, ◌&&◌, zero, suc, Bool, true, false, not, if◌then◌else◌, Option, Some, None}
use Rattle.xti_base.specs.declared.limit.TheConstants.{T_SENDZERO, T_ORDRELDATA}
use Rattle.xti_base.specs.declared.limits.TheConstants.{MOST_ADDRESS, MOST_OPTIONS, MOST_CONNECT_DATA, MOST_EXPEDITED_MESSAGE}
use Rattle.xti_base.specs.Kinds.{same_service}
use Rattle.xti_base.specs.declared.limit.Info.{Info}
use Rattle.xti_base.specs.declared.kinds.Prov.{Prov}
use Rattle.xti_base.specs.declared.kinds.Prov.TheVariants.{Ticots, Ticotsord, Ticlts, Other}
use Rattle.xti_base.specs.declared.kinds.ServType.{ServType}
use Rattle.xti_base.specs.declared.kinds.ServType.TheVariants.{T_COTS, T_COTS_ORD, T_CLTS}
use Rattle.xti_base.specs.declared.limit.Limit.{Limit}
use Rattle.xti_base.specs.declared.limit.Limit.TheVariants.{At, Invalid}
use Rattle.xti_model.specs.declared.profile.Profile.{Profile}
use Rattle.xti_model.specs.declared.profile.Providers.{Providers}
use Rattle.xti_model.specs.Profile.{is_stream_limit}

-- what is not a provider has the first one's values, and no endpoint
abbrev pub profile : Providers → Prov → Profile
profile p Ticots = p.ticots
profile p Ticotsord = p.ticotsord
profile p Ticlts = p.ticlts
profile p Other = p.ticots

-- the service type
abbrev pub service : Prov → ServType
service Ticots = T_COTS
service Ticotsord = T_COTS_ORD
service Ticlts = T_CLTS
service Other = T_COTS

-- whether the name names a provider
abbrev pub is_provider : Prov → Bool
is_provider Other = false
is_provider prov = true

-- T_CLTS
abbrev pub has_datagrams : Prov → Bool
has_datagrams prov = same_service (service prov) T_CLTS

-- T_COTS, with or without orderly release
abbrev pub has_connections : Prov → Bool
has_connections prov = not (has_datagrams prov)

-- T_COTS_ORD
abbrev pub has_release : Prov → Bool
has_release prov = same_service (service prov) T_COTS_ORD

-- T_ORDRELDATA: data may go with an orderly release
abbrev pub has_release_data : Providers → Prov → Bool
has_release_data p prov = has_release prov && (profile p prov).reldata

-- the most bytes of data that go with an orderly release
abbrev pub release_limit : Providers → Prov → ℕ
release_limit p prov = if has_release_data p prov then MOST_CONNECT_DATA else 0

-- the flags of a provider
abbrev pub flags : Providers → Prov → ℕ
flags p prov = (if (profile p prov).sendzero then T_SENDZERO else 0) + (if has_release_data p prov then T_ORDRELDATA else 0)

-- the most bytes of one message, where that is a number over 0
abbrev pub limit_over_zero : Limit → Option ℕ
limit_over_zero (At zero) = None
limit_over_zero (At (suc n)) = Some (suc n)
limit_over_zero other = None

-- whether normal data are a stream of bytes, without ends
abbrev pub is_stream : Providers → Prov → Bool
is_stream p prov = is_stream_limit (profile p prov).tsdu

-- the most bytes of an expedited message
abbrev pub expedited_limit : Prov → Limit
expedited_limit Ticlts = Invalid
expedited_limit prov = At MOST_EXPEDITED_MESSAGE

-- the most bytes of data that go with a request, a confirmation or a disconnect
abbrev pub connection_limit : Prov → Limit
connection_limit Ticlts = Invalid
connection_limit prov = At MOST_CONNECT_DATA

-- what getinfo tells
abbrev pub info : Providers → Prov → Info
info p prov = record {
  addr = At MOST_ADDRESS;
  options = At MOST_OPTIONS;
  tsdu = (profile p prov).tsdu;
  etsdu = expedited_limit prov;
  connect = connection_limit prov;
  discon = connection_limit prov;
  servtype = service prov;
  flags = flags p prov;
}

-- The values of the providers: those at the start, and those that a script may set.
use Rattle.std.specs.Prelude.{ℕ, Bool, true, false, ◌==◌, ◌&&◌, ◌||◌, not, nat_le, Option, Some, None, if◌then◌else◌}
use Rattle.xti_base.specs.declared.kinds.Prov.{Prov}
use Rattle.xti_base.specs.declared.kinds.Prov.TheVariants.{Ticots, Ticotsord, Ticlts}
use Rattle.xti_base.specs.declared.limits.TheConstants.{MOST_SIZE, USUAL_DATAGRAM, USUAL_BUFFER}
use Rattle.xti_base.specs.declared.limit.Limit.{Limit}
use Rattle.xti_base.specs.declared.limit.Limit.TheVariants.{At, Infinite, Invalid}
use Rattle.xti_model.specs.declared.profile.Profile.{Profile}
use Rattle.xti_model.specs.declared.profile.Providers.{Providers}
use Rattle.xti_model.specs.declared.profile.Version.{Version}
use Rattle.xti_model.specs.declared.profile.Version.TheVariants.{One, Two}

-- the values where a script of the version sets none
abbrev pub usual_of : Version → Providers
usual_of v = record {
  version = v;
  ticots = record { tsdu = At MOST_SIZE; sendzero = true; same_addr = false; sndbuf = USUAL_BUFFER; rcvbuf = USUAL_BUFFER; reldata = false };
  ticotsord = record { tsdu = At 0; sendzero = false; same_addr = false; sndbuf = USUAL_BUFFER; rcvbuf = USUAL_BUFFER; reldata = false };
  ticlts = record { tsdu = At USUAL_DATAGRAM; sendzero = true; same_addr = false; sndbuf = USUAL_BUFFER; rcvbuf = USUAL_BUFFER; reldata = false };
}

abbrev pub usual : Providers
usual = usual_of One

abbrev pub usual_two : Providers
usual_two = usual_of Two

-- version 2 alone has data with a release in its texts
abbrev pub has_release_data : Version → Bool
has_release_data One = false
has_release_data Two = true

-- texts say of ticotsord alone whether data may go with a release
abbrev pub tells_reldata : Version → Prov → Bool
tells_reldata version Ticotsord = has_release_data version
tells_reldata version prov = false

-- where texts don't say so, no data may go with a release
abbrev pub is_told : Version → Prov → Profile → Bool
is_told version prov p = tells_reldata version prov || not p.reldata

-- what texts of the version say of the three providers' releases
abbrev pub releases_told : Providers → Bool
releases_told p = is_told p.version Ticots p.ticots && is_told p.version Ticotsord p.ticotsord && is_told p.version Ticlts p.ticlts

-- a message or a buffer of at least one byte
abbrev pub is_size : ℕ → Bool
is_size n = nat_le 1 n && nat_le n MOST_SIZE

-- messages have ends, and a limit
abbrev pub has_limit : Limit → Bool
has_limit (At n) = is_size n
has_limit Infinite = false
has_limit Invalid = false

-- messages have ends, with a limit or without
abbrev pub has_messages : Limit → Bool
has_messages Infinite = true
has_messages limit = has_limit limit

-- bytes without ends
abbrev pub is_stream_limit : Limit → Bool
is_stream_limit (At n) = n == 0
is_stream_limit other = false

-- both buffers have a size
abbrev pub has_buffers : Profile → Bool
has_buffers p = is_size p.sndbuf && is_size p.rcvbuf

-- a stream has no empty messages
abbrev pub valid_orderly : Profile → Bool
valid_orderly p = has_buffers p && (has_messages p.tsdu || (is_stream_limit p.tsdu && not p.sendzero))

-- messages have ends, with or without a limit
abbrev pub valid_connections : Profile → Bool
valid_connections p = has_buffers p && has_messages p.tsdu

-- datagrams have no listener whose address could be taken
abbrev pub valid_datagrams : Profile → Bool
valid_datagrams p = has_buffers p && has_limit p.tsdu && not p.same_addr

-- the first provider with values that no script may set
abbrev pub first_wrong : Providers → Option Prov
first_wrong p = if not (valid_connections p.ticots) then Some Ticots else if not (valid_orderly p.ticotsord) then Some Ticotsord else if not (valid_datagrams p.ticlts) then Some Ticlts else None

-- the values that a script may set
abbrev pub valid : Providers → Bool
valid p = valid_connections p.ticots && valid_orderly p.ticotsord && valid_datagrams p.ticlts

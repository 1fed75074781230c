-- The head of a script: what its TOML text says of the three providers. What it leaves out has its usual value.
use Rattle.std.specs.Prelude.{ℕ, ℤ, pos, negsuc, ◌==◌, Bool, true, false, ◌&&◌, ◌||◌, List, [], ◌∷◌, Option, Some, None, option_map, option_and_then, if◌then◌else◌, codes}
use Rattle.std.specs.List.{list_all}
use Rattle.std.specs.Str.{bytes_eq}
use Rattle.toml.specs.Data.{Data, Members, no_members, member, get_member, as_integer, as_bool, as_table}
use Rattle.toml.specs.Parse.{parse_document}
use Rattle.xti_base.specs.declared.kinds.Prov.{Prov}
use Rattle.xti_base.specs.declared.kinds.Prov.TheVariants.{Ticots, Ticotsord, Ticlts}
use Rattle.xti_base.specs.Kinds.{prov_name}
use Rattle.xti_base.specs.declared.limit.Limit.{Limit}
use Rattle.xti_base.specs.declared.limit.Limit.TheVariants.{At, Infinite}
use Rattle.xti_model.specs.Profile.{usual_of, tells_reldata, is_size, valid}
use Rattle.xti_model.specs.declared.profile.Profile.{Profile}
use Rattle.xti_model.specs.declared.profile.Providers.{Providers}
use Rattle.xti_model.specs.declared.profile.Version.{Version}
use Rattle.xti_words.specs.Texts.{is_ascii}

infixl 10 ◌>>=◌
abbrev ◌>>=◌ : {A B : Type 0} → Option A → (A → Option B) → Option B
o >>= f = option_and_then f o

-- ---- keys

abbrev pub keys_in : Members → List (List ℕ)
keys_in no_members = []
keys_in (member key value others) = key ∷ keys_in others

abbrev pub keys_pass : (List ℕ → Bool) → Members → Bool
keys_pass may_stand members = list_all may_stand (keys_in members)

abbrev pub is_provider : List ℕ → Bool
is_provider key = bytes_eq key (codes "ticots") || (bytes_eq key (codes "ticotsord") || bytes_eq key (codes "ticlts"))

-- datagrams have no listener whose address an accept could have
abbrev pub has_same_addr : Prov → Bool
has_same_addr Ticlts = false
has_same_addr _ = true

-- what the table of the provider may set in this version
abbrev pub is_setting : Version → Prov → List ℕ → Bool
is_setting version prov key =
    bytes_eq key (codes "tsdu") || (bytes_eq key (codes "sendzero") || (bytes_eq key (codes "sndbuf") || (bytes_eq key (codes "rcvbuf")
    || ((has_same_addr prov && bytes_eq key (codes "same_addr")) || (tells_reldata version prov && bytes_eq key (codes "reldata"))))))

-- ---- values

-- what is read of the value, or the usual one where the key is left out
abbrev pub or_usual : {A : Type 0} → (Data → Option A) → A → Option Data → Option A
or_usual read start None = Some start
or_usual read start (Some value) = read value

-- 1 to 65536
abbrev pub size_of : ℤ → Option ℕ
size_of (pos n) = if is_size n then Some n else None
size_of (negsuc n) = None

abbrev pub size_at : List ℕ → ℕ → Members → Option ℕ
size_at key usual members = or_usual (λ value. as_integer value >>= size_of) usual (get_member key members)

abbrev pub flag_at : List ℕ → Bool → Members → Option Bool
flag_at key usual members = or_usual as_bool usual (get_member key members)

-- a size, 0 for a stream, -1 for no limit
abbrev pub limit_of : ℤ → Option Limit
limit_of (pos n) = if n == 0 then Some (At 0) else option_map (λ size. At size) (size_of (pos n))
limit_of (negsuc n) = if n == 0 then Some Infinite else None

abbrev pub limit_at : Limit → Members → Option Limit
limit_at usual members = or_usual (λ value. as_integer value >>= limit_of) usual (get_member (codes "tsdu") members)

-- ---- providers

unfoldable pub profile_with : Option Limit → Option Bool → Option Bool → Option ℕ → Option ℕ → Option Bool → Option Profile
profile_with tsdu sendzero same_addr sndbuf rcvbuf reldata =
    tsdu >>= (λ t. sendzero >>= (λ z. same_addr >>= (λ a. sndbuf >>= (λ s. rcvbuf >>= (λ r. reldata >>= (λ d.
    Some (record { tsdu = t; sendzero = z; same_addr = a; sndbuf = s; rcvbuf = r; reldata = d })))))))

abbrev pub profile_in : Version → Prov → Profile → Members → Option Profile
profile_in version prov usual members =
    if keys_pass (is_setting version prov) members then profile_with (limit_at usual.tsdu members)
    (flag_at (codes "sendzero") usual.sendzero members) (flag_at (codes "same_addr") usual.same_addr members)
    (size_at (codes "sndbuf") usual.sndbuf members) (size_at (codes "rcvbuf") usual.rcvbuf members)
    (flag_at (codes "reldata") usual.reldata members)
    else None

-- the values of a provider in this version, by its table
unfoldable pub profile_of : Version → Prov → Profile → Option Data → Option Profile
profile_of version prov usual table = or_usual (λ value. as_table value >>= profile_in version prov usual) usual table

abbrev pub profile_at : Version → Members → Prov → Profile → Option Profile
profile_at version tables prov usual = profile_of version prov usual (get_member (prov_name prov) tables)

abbrev pub set_over : Providers → Members → Option Providers
set_over usual tables =
    profile_at usual.version tables Ticots usual.ticots >>= (λ cots. profile_at usual.version tables Ticotsord usual.ticotsord >>= (λ ord. profile_at usual.version tables Ticlts usual.ticlts >>= (λ clts.
    Some (record { version = usual.version; ticots = cots; ticotsord = ord; ticlts = clts }))))

-- what holds between values, as that a stream has no empty messages, is judged when all are set
abbrev pub valid_only : Providers → Option Providers
valid_only p = if valid p then Some p else None

unfoldable pub providers_of : Version → Members → Option Providers
providers_of version tables = if keys_pass is_provider tables then set_over (usual_of version) tables >>= valid_only else None

-- the providers that the head of a script of this version gives: it is ASCII that `toml` reads, with tables of the providers alone, and the values are valid
unfoldable pub head_of : Version → List ℕ → Option Providers
head_of version text = if is_ascii text then parse_document text >>= providers_of version else None

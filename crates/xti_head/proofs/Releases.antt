-- What heads say of releases: data may go with one only where texts of the version can say so.
use Rattle.std.proofs.Common.{◌≡◌, ℕ, Bool, true, false, List, Option, Some, None, Ordering, Less, Equal, Greater, cond, ◌&&◌, ◌||◌, not, refl, ap, subst, sym, ◌∙◌}
use Rattle.std.specs.Prelude.{codes, option_and_then}
use Rattle.std.specs.Ordering.{nat_cmp, match_ordering}
use Rattle.std.specs.Cmp.Lexicographic.{slice_cmp}
use Rattle.std.proofs.lemmas.Bool.{and_parts}
use Rattle.std.proofs.lemmas.Map.Lookups.{exact_bytes}
use Rattle.toml.specs.Data.{Data, Members, no_members, member, get_member, as_bool, as_table}
use Rattle.toml.specs.Parse.{parse_document}
use Rattle.xti_base.specs.declared.kinds.Prov.{Prov}
use Rattle.xti_base.specs.declared.kinds.Prov.TheVariants.{Ticots, Ticotsord, Ticlts, Other}
use Rattle.xti_base.specs.declared.limit.Limit.{Limit}
use Rattle.xti_model.specs.Profile.{usual_of, valid, tells_reldata, is_told, releases_told}
use Rattle.xti_model.specs.declared.profile.Profile.{Profile}
use Rattle.xti_model.specs.declared.profile.Providers.{Providers}
use Rattle.xti_model.specs.declared.profile.Version.{Version}
use Rattle.xti_model.specs.declared.profile.Version.TheVariants.{One, Two}
use Rattle.xti_words.specs.Texts.{is_ascii}
use Rattle.xti_head.specs.Head.{is_provider, is_setting, keys_pass, or_usual, limit_at, flag_at, size_at, profile_with, profile_in, profile_of, profile_at, set_over, valid_only, providers_of, head_of}
use Rattle.xti_head.proofs.Valid.{tested}

-- data may go with a release only where texts can say so
abbrev IsTold : Version → Prov → Profile → Type 0
IsTold version prov p = is_told version prov p ≡ true

-- a table may have the key where texts can say it
setting_reldata : (version : Version) (prov : Prov) → is_setting version prov (codes "reldata") ≡ tells_reldata version prov
setting_reldata One Ticots = refl
setting_reldata One Ticotsord = refl
setting_reldata One Ticlts = refl
setting_reldata One Other = refl
setting_reldata Two Ticots = refl
setting_reldata Two Ticotsord = refl
setting_reldata Two Ticlts = refl
setting_reldata Two Other = refl

-- elsewhere a table that is right doesn't have it
left_out : (version : Version) (prov : Prov) (members : Members) → tells_reldata version prov ≡ false → keys_pass (is_setting version prov) members ≡ true
    → get_member (codes "reldata") members ≡ None
left_out version prov no_members t h = refl
left_out version prov (member key value others) t h =
    let parts = and_parts (is_setting version prov key) (keys_pass (is_setting version prov) others) h in
    passed (slice_cmp nat_cmp (codes "reldata") key) refl parts.0 (left_out version prov others t parts.1)
  where
    passed : (r : Ordering) → slice_cmp nat_cmp (codes "reldata") key ≡ r → is_setting version prov key ≡ true → get_member (codes "reldata") others ≡ None
        → match_ordering r (get_member (codes "reldata") others) (Some value) (get_member (codes "reldata") others) ≡ None
    passed Less e k n = n
    passed Greater e k n = n
    passed Equal e k n =
        let same : codes "reldata" ≡ key = exact_bytes (codes "reldata") key e in
        let found : is_setting version prov (codes "reldata") ≡ true = subst (λ (x : List ℕ). is_setting version prov x ≡ true) (sym same) k in
        let no : tells_reldata version prov ≡ true = sym (setting_reldata version prov) ∙ found in
        absurd cc

-- the value that is read is the profile's
made_with : (t : Option Limit) (z a : Option Bool) (s r : Option ℕ) (d : Option Bool) (p : Profile) → profile_with t z a s r d ≡ Some p → d ≡ Some p.reldata
unfolding profile_with
made_with None z a s r d p e = absurd cc
made_with (Some t) None a s r d p e = absurd cc
made_with (Some t) (Some z) None s r d p e = absurd cc
made_with (Some t) (Some z) (Some a) None r d p e = absurd cc
made_with (Some t) (Some z) (Some a) (Some s) None d p e = absurd cc
made_with (Some t) (Some z) (Some a) (Some s) (Some r) None p e = absurd cc
made_with (Some t) (Some z) (Some a) (Some s) (Some r) (Some d) p e =
    let q : record { tsdu = t; sendzero = z; same_addr = a; sndbuf = s; rcvbuf = r; reldata = d } ≡ p = cc in
    ap (λ (x : Profile). Some x.reldata) q

members_told : (version : Version) (prov : Prov) (start p : Profile) (members : Members) (told : Bool) → tells_reldata version prov ≡ told
    → keys_pass (is_setting version prov) members ≡ true → flag_at (codes "reldata") start.reldata members ≡ Some p.reldata → IsTold version prov start → IsTold version prov p
members_told version prov start p members true t h e z = ap (λ b. b || not p.reldata) t
members_told version prov start p members false t h e z =
    let usual : flag_at (codes "reldata") start.reldata members ≡ Some start.reldata = ap (or_usual as_bool start.reldata) (left_out version prov members t h) in
    let same : start.reldata ≡ p.reldata = cc in
    subst (λ (r : Bool). (tells_reldata version prov || not r) ≡ true) same z

-- the keys of the table that is read are those that it may have
passing : {A : Type 0} (b : Bool) (o : Option A) (p : A) → cond b o None ≡ Some p → b ≡ true
passing true o p e = refl
passing false o p e = absurd cc

table_told : (version : Version) (prov : Prov) (start p : Profile) (o : Option Members) → option_and_then (profile_in version prov start) o ≡ Some p → IsTold version prov start → IsTold version prov p
table_told version prov start p None e z = absurd cc
table_told version prov start p (Some members) e z =
    let read = tested (keys_pass (is_setting version prov) members) (profile_with (limit_at start.tsdu members) (flag_at (codes "sendzero") start.sendzero members) (flag_at (codes "same_addr") start.same_addr members)
    (size_at (codes "sndbuf") start.sndbuf members) (size_at (codes "rcvbuf") start.rcvbuf members) (flag_at (codes "reldata") start.reldata members)) p e in
    members_told version prov start p members (tells_reldata version prov) refl (passing (keys_pass (is_setting version prov) members) _ p e)
    (made_with (limit_at start.tsdu members) (flag_at (codes "sendzero") start.sendzero members) (flag_at (codes "same_addr") start.same_addr members)
    (size_at (codes "sndbuf") start.sndbuf members) (size_at (codes "rcvbuf") start.rcvbuf members) (flag_at (codes "reldata") start.reldata members) p read) z

profile_told : (version : Version) (prov : Prov) (start p : Profile) (table : Option Data) → IsTold version prov start → profile_of version prov start table ≡ Some p → IsTold version prov p
unfolding profile_of
profile_told version prov start p None z e = let q : start ≡ p = cc in subst (IsTold version prov) q z
profile_told version prov start p (Some value) z e = table_told version prov start p (as_table value) e z

-- the three providers, and their version
pub record AreTold (version : Version) (p : Providers) : Type 0 where
  pub same : p.version ≡ version
  pub ticots : IsTold version Ticots p.ticots
  pub ticotsord : IsTold version Ticotsord p.ticotsord
  pub ticlts : IsTold version Ticlts p.ticlts

-- each provider that is set
abbrev SetsTo : Version → Prov → Option Profile → Type 0
SetsTo version prov o = (p : Profile) → o ≡ Some p → IsTold version prov p

all_told : (version : Version) (a b c : Option Profile) (p : Providers) → SetsTo version Ticots a → SetsTo version Ticotsord b → SetsTo version Ticlts c
    → option_and_then (λ x. option_and_then (λ y. option_and_then (λ z. Some (record { version = version; ticots = x; ticotsord = y; ticlts = z })) c) b) a ≡ Some p → AreTold version p
all_told version None b c p f g h e = absurd cc
all_told version (Some x) None c p f g h e = absurd cc
all_told version (Some x) (Some y) None p f g h e = absurd cc
all_told version (Some x) (Some y) (Some z) p f g h e =
    let q : record { version = version; ticots = x; ticotsord = y; ticlts = z } ≡ p = cc in
    subst (AreTold version) q (record { same = refl; ticots = f x refl; ticotsord = g y refl; ticlts = h z refl })

-- the usual profiles are without
usual_told : (version : Version) → AreTold version (usual_of version)
usual_told One = record { same = refl; ticots = refl; ticotsord = refl; ticlts = refl }
usual_told Two = record { same = refl; ticots = refl; ticotsord = refl; ticlts = refl }

set_told : (version : Version) (tables : Members) (p : Providers) → set_over (usual_of version) tables ≡ Some p → AreTold version p
set_told version tables p e =
    let start = usual_of version in
    let u = usual_told version in
    all_told version (profile_at version tables Ticots start.ticots) (profile_at version tables Ticotsord start.ticotsord) (profile_at version tables Ticlts start.ticlts) p
    (λ q. profile_told version Ticots start.ticots q _ u.ticots) (λ q. profile_told version Ticotsord start.ticotsord q _ u.ticotsord) (λ q. profile_told version Ticlts start.ticlts q _ u.ticlts) e

judged_told : (version : Version) (tables : Members) (o : Option Providers) (p : Providers) → set_over (usual_of version) tables ≡ o → option_and_then valid_only o ≡ Some p → AreTold version p
judged_told version tables None p s e = absurd cc
judged_told version tables (Some q) p s e =
    let t : Some q ≡ Some p = tested (valid q) (Some q) p e in
    let r : q ≡ p = cc in
    subst (AreTold version) r (set_told version tables q s)

tables_told : (version : Version) (o : Option Members) (p : Providers) → option_and_then (providers_of version) o ≡ Some p → AreTold version p
unfolding providers_of
tables_told version None p e = absurd cc
tables_told version (Some tables) p e = judged_told version tables (set_over (usual_of version) tables) p refl (tested (keys_pass is_provider tables) _ p e)

pub head_told : (version : Version) (text : List ℕ) (p : Providers) → head_of version text ≡ Some p → AreTold version p
unfolding head_of
head_told version text p e = tables_told version (parse_document text) p (tested (is_ascii text) _ p e)

all_true : (a b c : Bool) → a ≡ true → b ≡ true → c ≡ true → (a && b && c) ≡ true
all_true a b c p q r = rw (p, q, r)

-- the three as one test
pub told : (version : Version) (p : Providers) → AreTold version p → releases_told p ≡ true
told version p h =
    let in_version = λ (prov : Prov) (q : Profile) (t : IsTold version prov q). subst (λ (v : Version). IsTold v prov q) (sym h.same) t in
    all_true (is_told p.version Ticots p.ticots) (is_told p.version Ticotsord p.ticotsord) (is_told p.version Ticlts p.ticlts)
    (in_version Ticots p.ticots h.ticots) (in_version Ticotsord p.ticotsord h.ticotsord) (in_version Ticlts p.ticlts h.ticlts)

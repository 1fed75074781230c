-- refusals of local calls
use Rattle.std.specs.Prelude.{true, false, List, [], ◌∷◌, ◌≡◌, refl, codes, Some}
use Rattle.std.specs.Fmt.{digits}
use Rattle.xti_base.specs.Options.{begins_option, is_option_list, options_within}
use Rattle.xti_base.specs.declared.errno.Errno.TheVariants.{TBADADDR, TBADOPT, TBADF, TOUTSTATE, TNODATA, TBADFLAG, TBADNAME, TADDRBUSY}
use Rattle.xti_base.specs.declared.kinds.Event.TheVariants.{T_LISTEN, T_DATA}
use Rattle.xti_base.specs.declared.kinds.Prov.TheVariants.{Ticots, Ticlts, Other}
use Rattle.xti_base.specs.declared.kinds.ServType.TheVariants.{T_CLTS}
use Rattle.xti_base.specs.declared.kinds.State.TheVariants.{T_UNINIT, T_UNBND, T_IDLE, T_OUTCON}
use Rattle.xti_base.specs.declared.limit.Limit.TheVariants.{At, Invalid}
use Rattle.xti_model.specs.declared.call.Call.TheVariants as call
use Rattle.xti_model.specs.declared.entry.Act.TheVariants as act
use Rattle.xti_model.specs.declared.entry.Entry.{Entry}
use Rattle.xti_model.specs.declared.entry.Outcome.TheVariants.{Done}
use Rattle.xti_model.specs.declared.entry.Reply.TheVariants.{Plain, Opened, Bound, Seen, Stands, Limits, Refused, Look, Overflow}
use Rattle.xti_model.specs.declared.profile.Providers.{Providers}
use Rattle.xti_model.specs.declared.profile.Version.TheVariants.{One}
use Rattle.xti_model.specs.declared.script.Line.{Line}
use Rattle.xti_model.specs.declared.script.NamedCall.TheVariants as named
use Rattle.xti_model.specs.Robin.{robin}
use Rattle.xti_model.specs.Step.{plan, step}
use Rattle.xti_model.specs.World.{opening}

providers : Providers
providers = record { version = One; ticots = record { tsdu = At 65536; sendzero = true; same_addr = false; sndbuf = 16384; rcvbuf = 16384; reldata = false }; ticotsord = record { tsdu = At 0; sendzero = false; same_addr = false; sndbuf = 16384; rcvbuf = 16384; reldata = false }; ticlts = record { tsdu = At 8192; sendzero = true; same_addr = false; sndbuf = 16384; rcvbuf = 16384; reldata = false } }

lines : List Line
lines =
    record { worker = 0; call = named.TOpen (codes "z") Ticlts false } ∷
    record { worker = 0; call = named.TClose (codes "z") } ∷
    record { worker = 0; call = named.TClose (codes "z") } ∷
    record { worker = 0; call = named.TBind (codes "z") [] 0 64 } ∷
    record { worker = 0; call = named.TUnbind (codes "z") } ∷
    record { worker = 0; call = named.TLookAt (codes "z") } ∷
    record { worker = 0; call = named.TGetState (codes "z") } ∷
    record { worker = 0; call = named.TSync (codes "z") } ∷
    record { worker = 0; call = named.TGetInfo (codes "z") } ∷
    record { worker = 0; call = named.TGetProtAddr (codes "z") 64 64 } ∷
    record { worker = 0; call = named.TOptMgmt (codes "z") 128 [] 256 } ∷
    record { worker = 0; call = named.SetMode (codes "z") true } ∷
    record { worker = 0; call = named.TOpen (codes "n") Other false } ∷
    record { worker = 0; call = named.TOpen (codes "a") Ticlts true } ∷
    record { worker = 0; call = named.TUnbind (codes "a") } ∷
    record { worker = 0; call = named.TBind (codes "a") (0 ∷ 1 ∷ 2 ∷ 3 ∷ 4 ∷ 5 ∷ 6 ∷ 7 ∷ 8 ∷ 9 ∷ 10 ∷ 11 ∷ 12 ∷ 13 ∷ 14 ∷ 15 ∷ 16 ∷ 17 ∷ 18 ∷ 19 ∷ 20 ∷ 21 ∷ 22 ∷ 23 ∷ 24 ∷ 25 ∷ 26 ∷ 27 ∷ 28 ∷ 29 ∷ 30 ∷ 31 ∷ 32 ∷ 33 ∷ 34 ∷ 35 ∷ 36 ∷ 37 ∷ 38 ∷ 39 ∷ 40 ∷ 41 ∷ 42 ∷ 43 ∷ 44 ∷ 45 ∷ 46 ∷ 47 ∷ 48 ∷ 49 ∷ 50 ∷ 51 ∷ 52 ∷ 53 ∷ 54 ∷ 55 ∷ 56 ∷ 57 ∷ 58 ∷ 59 ∷ 60 ∷ 61 ∷ 62 ∷ 63 ∷ 64 ∷ []) 0 64 } ∷
    record { worker = 0; call = named.TBind (codes "a") (codes "abc") 0 1 } ∷
    record { worker = 0; call = named.TBind (codes "a") (0 ∷ 1 ∷ 2 ∷ 3 ∷ 4 ∷ 5 ∷ 6 ∷ 7 ∷ 8 ∷ 9 ∷ 10 ∷ 11 ∷ 12 ∷ 13 ∷ 14 ∷ 15 ∷ 16 ∷ 17 ∷ 18 ∷ 19 ∷ 20 ∷ 21 ∷ 22 ∷ 23 ∷ 24 ∷ 25 ∷ 26 ∷ 27 ∷ 28 ∷ 29 ∷ 30 ∷ 31 ∷ 32 ∷ 33 ∷ 34 ∷ 35 ∷ 36 ∷ 37 ∷ 38 ∷ 39 ∷ 40 ∷ 41 ∷ 42 ∷ 43 ∷ 44 ∷ 45 ∷ 46 ∷ 47 ∷ 48 ∷ 49 ∷ 50 ∷ 51 ∷ 52 ∷ 53 ∷ 54 ∷ 55 ∷ 56 ∷ 57 ∷ 58 ∷ 59 ∷ 60 ∷ 61 ∷ 62 ∷ 63 ∷ 64 ∷ []) 0 64 } ∷
    record { worker = 0; call = named.TGetProtAddr (codes "a") 1 64 } ∷
    record { worker = 0; call = named.TOpen (codes "b") Ticlts true } ∷
    record { worker = 0; call = named.TBind (codes "b") (codes "abc") 0 1 } ∷
    record { worker = 0; call = named.TBind (codes "b") [] 3 64 } ∷
    record { worker = 0; call = named.TSndUData (codes "b") (codes "abc") [] (codes "x") } ∷
    record { worker = 0; call = named.TUnbind (codes "a") } ∷
    record { worker = 0; call = named.TOpen (codes "l") Ticots true } ∷
    record { worker = 0; call = named.TBind (codes "l") (codes "l") 9 64 } ∷
    record { worker = 0; call = named.TOpen (codes "m") Ticots false } ∷
    record { worker = 0; call = named.TBind (codes "m") (codes "l") 1 64 } ∷
    record { worker = 0; call = named.TBind (codes "m") (codes "l") 0 64 } ∷
    record { worker = 0; call = named.TOpen (codes "c") Ticots true } ∷
    record { worker = 0; call = named.TBind (codes "c") [] 0 64 } ∷
    record { worker = 0; call = named.TConnect (codes "c") (codes "l") [] [] 64 256 64 } ∷
    record { worker = 0; call = named.TUnbind (codes "l") } ∷
    record { worker = 0; call = named.TLookAt (codes "l") } ∷
    record { worker = 0; call = named.TOptMgmt (codes "a") 7 (0 ∷ []) 256 } ∷
    record { worker = 0; call = named.TOptMgmt (codes "a") 128 (0 ∷ 1 ∷ 2 ∷ 3 ∷ 4 ∷ 5 ∷ 6 ∷ 7 ∷ 8 ∷ 9 ∷ 10 ∷ 11 ∷ 12 ∷ 13 ∷ 14 ∷ 15 ∷ 16 ∷ 17 ∷ 18 ∷ 19 ∷ 20 ∷ 21 ∷ 22 ∷ 23 ∷ 24 ∷ 25 ∷ 26 ∷ 27 ∷ 28 ∷ 29 ∷ 30 ∷ 31 ∷ 32 ∷ 33 ∷ 34 ∷ 35 ∷ 36 ∷ 37 ∷ 38 ∷ 39 ∷ 40 ∷ 41 ∷ 42 ∷ 43 ∷ 44 ∷ 45 ∷ 46 ∷ 47 ∷ 48 ∷ 49 ∷ 50 ∷ 51 ∷ 52 ∷ 53 ∷ 54 ∷ 55 ∷ 56 ∷ 57 ∷ 58 ∷ 59 ∷ 60 ∷ 61 ∷ 62 ∷ 63 ∷ 64 ∷ 65 ∷ 66 ∷ 67 ∷ 68 ∷ 69 ∷ 70 ∷ 71 ∷ 72 ∷ 73 ∷ 74 ∷ 75 ∷ 76 ∷ 77 ∷ 78 ∷ 79 ∷ 80 ∷ 81 ∷ 82 ∷ 83 ∷ 84 ∷ 85 ∷ 86 ∷ 87 ∷ 88 ∷ 89 ∷ 90 ∷ 91 ∷ 92 ∷ 93 ∷ 94 ∷ 95 ∷ 96 ∷ 97 ∷ 98 ∷ 99 ∷ 100 ∷ 101 ∷ 102 ∷ 103 ∷ 104 ∷ 105 ∷ 106 ∷ 107 ∷ 108 ∷ 109 ∷ 110 ∷ 111 ∷ 112 ∷ 113 ∷ 114 ∷ 115 ∷ 116 ∷ 117 ∷ 118 ∷ 119 ∷ 120 ∷ 121 ∷ 122 ∷ 123 ∷ 124 ∷ 125 ∷ 126 ∷ 127 ∷ 128 ∷ 129 ∷ 130 ∷ 131 ∷ 132 ∷ 133 ∷ 134 ∷ 135 ∷ 136 ∷ 137 ∷ 138 ∷ 139 ∷ 140 ∷ 141 ∷ 142 ∷ 143 ∷ 144 ∷ 145 ∷ 146 ∷ 147 ∷ 148 ∷ 149 ∷ 150 ∷ 151 ∷ 152 ∷ 153 ∷ 154 ∷ 155 ∷ 156 ∷ 157 ∷ 158 ∷ 159 ∷ 160 ∷ 161 ∷ 162 ∷ 163 ∷ 164 ∷ 165 ∷ 166 ∷ 167 ∷ 168 ∷ 169 ∷ 170 ∷ 171 ∷ 172 ∷ 173 ∷ 174 ∷ 175 ∷ 176 ∷ 177 ∷ 178 ∷ 179 ∷ 180 ∷ 181 ∷ 182 ∷ 183 ∷ 184 ∷ 185 ∷ 186 ∷ 187 ∷ 188 ∷ 189 ∷ 190 ∷ 191 ∷ 192 ∷ 193 ∷ 194 ∷ 195 ∷ 196 ∷ 197 ∷ 198 ∷ 199 ∷ 200 ∷ 201 ∷ 202 ∷ 203 ∷ 204 ∷ 205 ∷ 206 ∷ 207 ∷ 208 ∷ 209 ∷ 210 ∷ 211 ∷ 212 ∷ 213 ∷ 214 ∷ 215 ∷ 216 ∷ 217 ∷ 218 ∷ 219 ∷ 220 ∷ 221 ∷ 222 ∷ 223 ∷ 224 ∷ 225 ∷ 226 ∷ 227 ∷ 228 ∷ 229 ∷ 230 ∷ 231 ∷ 232 ∷ 233 ∷ 234 ∷ 235 ∷ 236 ∷ 237 ∷ 238 ∷ 239 ∷ 240 ∷ 241 ∷ 242 ∷ 243 ∷ 244 ∷ 245 ∷ 246 ∷ 247 ∷ 248 ∷ 249 ∷ 250 ∷ 251 ∷ 252 ∷ 253 ∷ 254 ∷ 255 ∷ 0 ∷ []) 1 } ∷
    record { worker = 0; call = named.TOptMgmt (codes "a") 128 (0 ∷ []) 256 } ∷
    record { worker = 0; call = named.TOptMgmt (codes "a") 128 (0 ∷ 0 ∷ 0 ∷ 16 ∷ 0 ∷ 0 ∷ 255 ∷ 255 ∷ 0 ∷ 0 ∷ 16 ∷ 1 ∷ 0 ∷ 0 ∷ 0 ∷ 0 ∷ 0 ∷ 0 ∷ 0 ∷ 16 ∷ 0 ∷ 0 ∷ 0 ∷ 6 ∷ 0 ∷ 0 ∷ 0 ∷ 1 ∷ 0 ∷ 0 ∷ 0 ∷ 0 ∷ []) 256 } ∷
    record { worker = 0; call = named.TOptMgmt (codes "a") 128 (0 ∷ 0 ∷ 0 ∷ 16 ∷ 0 ∷ 0 ∷ 255 ∷ 255 ∷ 0 ∷ 0 ∷ 16 ∷ 1 ∷ 0 ∷ 0 ∷ 0 ∷ 0 ∷ []) 1 } ∷
    record { worker = 0; call = named.SetMode (codes "a") false } ∷
    record { worker = 0; call = named.TGetState (codes "a") } ∷
    record { worker = 0; call = named.TSync (codes "m") } ∷
    record { worker = 0; call = named.TGetInfo (codes "b") } ∷
    record { worker = 0; call = named.TUnbind (codes "b") } ∷
    record { worker = 0; call = named.TClose (codes "a") } ∷
    []

entries : List Entry
entries =
    record { worker = 0; act = act.Begin (call.TOpen Ticlts false); outcome = Done (Opened (record { 0 = 0 })); after = T_UNBND } ∷
    record { worker = 0; act = act.Begin (call.TClose (record { 0 = 0 })); outcome = Done Plain; after = T_UNINIT } ∷
    record { worker = 0; act = act.Begin (call.TClose (record { 0 = 0 })); outcome = Done (Refused TBADF); after = T_UNINIT } ∷
    record { worker = 0; act = act.Begin (call.TBind (record { 0 = 0 }) [] 0 64); outcome = Done (Refused TBADF); after = T_UNINIT } ∷
    record { worker = 0; act = act.Begin (call.TUnbind (record { 0 = 0 })); outcome = Done (Refused TBADF); after = T_UNINIT } ∷
    record { worker = 0; act = act.Begin (call.TLookAt (record { 0 = 0 })); outcome = Done (Refused TBADF); after = T_UNINIT } ∷
    record { worker = 0; act = act.Begin (call.TGetState (record { 0 = 0 })); outcome = Done (Refused TBADF); after = T_UNINIT } ∷
    record { worker = 0; act = act.Begin (call.TSync (record { 0 = 0 })); outcome = Done (Refused TBADF); after = T_UNINIT } ∷
    record { worker = 0; act = act.Begin (call.TGetInfo (record { 0 = 0 })); outcome = Done (Refused TBADF); after = T_UNINIT } ∷
    record { worker = 0; act = act.Begin (call.TGetProtAddr (record { 0 = 0 }) 64 64); outcome = Done (Refused TBADF); after = T_UNINIT } ∷
    record { worker = 0; act = act.Begin (call.TOptMgmt (record { 0 = 0 }) 128 [] 256); outcome = Done (Refused TBADF); after = T_UNINIT } ∷
    record { worker = 0; act = act.Begin (call.SetMode (record { 0 = 0 }) true); outcome = Done (Refused TBADF); after = T_UNINIT } ∷
    record { worker = 0; act = act.Begin (call.TOpen Other false); outcome = Done (Refused TBADNAME); after = T_UNINIT } ∷
    record { worker = 0; act = act.Begin (call.TOpen Ticlts true); outcome = Done (Opened (record { 0 = 64 })); after = T_UNBND } ∷
    record { worker = 0; act = act.Begin (call.TUnbind (record { 0 = 64 })); outcome = Done (Refused TOUTSTATE); after = T_UNBND } ∷
    record { worker = 0; act = act.Begin (call.TBind (record { 0 = 64 }) (0 ∷ 1 ∷ 2 ∷ 3 ∷ 4 ∷ 5 ∷ 6 ∷ 7 ∷ 8 ∷ 9 ∷ 10 ∷ 11 ∷ 12 ∷ 13 ∷ 14 ∷ 15 ∷ 16 ∷ 17 ∷ 18 ∷ 19 ∷ 20 ∷ 21 ∷ 22 ∷ 23 ∷ 24 ∷ 25 ∷ 26 ∷ 27 ∷ 28 ∷ 29 ∷ 30 ∷ 31 ∷ 32 ∷ 33 ∷ 34 ∷ 35 ∷ 36 ∷ 37 ∷ 38 ∷ 39 ∷ 40 ∷ 41 ∷ 42 ∷ 43 ∷ 44 ∷ 45 ∷ 46 ∷ 47 ∷ 48 ∷ 49 ∷ 50 ∷ 51 ∷ 52 ∷ 53 ∷ 54 ∷ 55 ∷ 56 ∷ 57 ∷ 58 ∷ 59 ∷ 60 ∷ 61 ∷ 62 ∷ 63 ∷ 64 ∷ []) 0 64); outcome = Done (Refused TBADADDR); after = T_UNBND } ∷
    record { worker = 0; act = act.Begin (call.TBind (record { 0 = 64 }) (codes "abc") 0 1); outcome = Done (Overflow (record { 0 = 0 })); after = T_IDLE } ∷
    record { worker = 0; act = act.Begin (call.TBind (record { 0 = 64 }) (0 ∷ 1 ∷ 2 ∷ 3 ∷ 4 ∷ 5 ∷ 6 ∷ 7 ∷ 8 ∷ 9 ∷ 10 ∷ 11 ∷ 12 ∷ 13 ∷ 14 ∷ 15 ∷ 16 ∷ 17 ∷ 18 ∷ 19 ∷ 20 ∷ 21 ∷ 22 ∷ 23 ∷ 24 ∷ 25 ∷ 26 ∷ 27 ∷ 28 ∷ 29 ∷ 30 ∷ 31 ∷ 32 ∷ 33 ∷ 34 ∷ 35 ∷ 36 ∷ 37 ∷ 38 ∷ 39 ∷ 40 ∷ 41 ∷ 42 ∷ 43 ∷ 44 ∷ 45 ∷ 46 ∷ 47 ∷ 48 ∷ 49 ∷ 50 ∷ 51 ∷ 52 ∷ 53 ∷ 54 ∷ 55 ∷ 56 ∷ 57 ∷ 58 ∷ 59 ∷ 60 ∷ 61 ∷ 62 ∷ 63 ∷ 64 ∷ []) 0 64); outcome = Done (Refused TOUTSTATE); after = T_IDLE } ∷
    record { worker = 0; act = act.Begin (call.TGetProtAddr (record { 0 = 64 }) 1 64); outcome = Done (Overflow (record { 0 = 0 })); after = T_IDLE } ∷
    record { worker = 0; act = act.Begin (call.TOpen Ticlts true); outcome = Done (Opened (record { 0 = 1 })); after = T_UNBND } ∷
    record { worker = 0; act = act.Begin (call.TBind (record { 0 = 1 }) (codes "abc") 0 1); outcome = Done (Refused TADDRBUSY); after = T_UNBND } ∷
    record { worker = 0; act = act.Begin (call.TBind (record { 0 = 1 }) [] 3 64); outcome = Done (Bound (codes "#0") 0); after = T_IDLE } ∷
    record { worker = 0; act = act.Begin (call.TSndUData (record { 0 = 1 }) (codes "abc") [] (codes "x")); outcome = Done Plain; after = T_IDLE } ∷
    record { worker = 0; act = act.Begin (call.TUnbind (record { 0 = 64 })); outcome = Done (Look T_DATA); after = T_IDLE } ∷
    record { worker = 0; act = act.Begin (call.TOpen Ticots true); outcome = Done (Opened (record { 0 = 2 })); after = T_UNBND } ∷
    record { worker = 0; act = act.Begin (call.TBind (record { 0 = 2 }) (codes "l") 9 64); outcome = Done (Bound (codes "l") 8); after = T_IDLE } ∷
    record { worker = 0; act = act.Begin (call.TOpen Ticots false); outcome = Done (Opened (record { 0 = 3 })); after = T_UNBND } ∷
    record { worker = 0; act = act.Begin (call.TBind (record { 0 = 3 }) (codes "l") 1 64); outcome = Done (Refused TADDRBUSY); after = T_UNBND } ∷
    record { worker = 0; act = act.Begin (call.TBind (record { 0 = 3 }) (codes "l") 0 64); outcome = Done (Bound (codes "l") 0); after = T_IDLE } ∷
    record { worker = 0; act = act.Begin (call.TOpen Ticots true); outcome = Done (Opened (record { 0 = 4 })); after = T_UNBND } ∷
    record { worker = 0; act = act.Begin (call.TBind (record { 0 = 4 }) [] 0 64); outcome = Done (Bound (codes "#0") 0); after = T_IDLE } ∷
    record { worker = 0; act = act.Begin (call.TConnect (record { 0 = 4 }) (codes "l") [] [] 64 256 64); outcome = Done (Refused TNODATA); after = T_OUTCON } ∷
    record { worker = 0; act = act.Begin (call.TUnbind (record { 0 = 2 })); outcome = Done (Look T_LISTEN); after = T_IDLE } ∷
    record { worker = 0; act = act.Begin (call.TLookAt (record { 0 = 2 })); outcome = Done (Seen (Some T_LISTEN)); after = T_IDLE } ∷
    record { worker = 0; act = act.Begin (call.TOptMgmt (record { 0 = 64 }) 7 (0 ∷ []) 256); outcome = Done (Refused TBADFLAG); after = T_IDLE } ∷
    record { worker = 0; act = act.Begin (call.TOptMgmt (record { 0 = 64 }) 128 (0 ∷ 1 ∷ 2 ∷ 3 ∷ 4 ∷ 5 ∷ 6 ∷ 7 ∷ 8 ∷ 9 ∷ 10 ∷ 11 ∷ 12 ∷ 13 ∷ 14 ∷ 15 ∷ 16 ∷ 17 ∷ 18 ∷ 19 ∷ 20 ∷ 21 ∷ 22 ∷ 23 ∷ 24 ∷ 25 ∷ 26 ∷ 27 ∷ 28 ∷ 29 ∷ 30 ∷ 31 ∷ 32 ∷ 33 ∷ 34 ∷ 35 ∷ 36 ∷ 37 ∷ 38 ∷ 39 ∷ 40 ∷ 41 ∷ 42 ∷ 43 ∷ 44 ∷ 45 ∷ 46 ∷ 47 ∷ 48 ∷ 49 ∷ 50 ∷ 51 ∷ 52 ∷ 53 ∷ 54 ∷ 55 ∷ 56 ∷ 57 ∷ 58 ∷ 59 ∷ 60 ∷ 61 ∷ 62 ∷ 63 ∷ 64 ∷ 65 ∷ 66 ∷ 67 ∷ 68 ∷ 69 ∷ 70 ∷ 71 ∷ 72 ∷ 73 ∷ 74 ∷ 75 ∷ 76 ∷ 77 ∷ 78 ∷ 79 ∷ 80 ∷ 81 ∷ 82 ∷ 83 ∷ 84 ∷ 85 ∷ 86 ∷ 87 ∷ 88 ∷ 89 ∷ 90 ∷ 91 ∷ 92 ∷ 93 ∷ 94 ∷ 95 ∷ 96 ∷ 97 ∷ 98 ∷ 99 ∷ 100 ∷ 101 ∷ 102 ∷ 103 ∷ 104 ∷ 105 ∷ 106 ∷ 107 ∷ 108 ∷ 109 ∷ 110 ∷ 111 ∷ 112 ∷ 113 ∷ 114 ∷ 115 ∷ 116 ∷ 117 ∷ 118 ∷ 119 ∷ 120 ∷ 121 ∷ 122 ∷ 123 ∷ 124 ∷ 125 ∷ 126 ∷ 127 ∷ 128 ∷ 129 ∷ 130 ∷ 131 ∷ 132 ∷ 133 ∷ 134 ∷ 135 ∷ 136 ∷ 137 ∷ 138 ∷ 139 ∷ 140 ∷ 141 ∷ 142 ∷ 143 ∷ 144 ∷ 145 ∷ 146 ∷ 147 ∷ 148 ∷ 149 ∷ 150 ∷ 151 ∷ 152 ∷ 153 ∷ 154 ∷ 155 ∷ 156 ∷ 157 ∷ 158 ∷ 159 ∷ 160 ∷ 161 ∷ 162 ∷ 163 ∷ 164 ∷ 165 ∷ 166 ∷ 167 ∷ 168 ∷ 169 ∷ 170 ∷ 171 ∷ 172 ∷ 173 ∷ 174 ∷ 175 ∷ 176 ∷ 177 ∷ 178 ∷ 179 ∷ 180 ∷ 181 ∷ 182 ∷ 183 ∷ 184 ∷ 185 ∷ 186 ∷ 187 ∷ 188 ∷ 189 ∷ 190 ∷ 191 ∷ 192 ∷ 193 ∷ 194 ∷ 195 ∷ 196 ∷ 197 ∷ 198 ∷ 199 ∷ 200 ∷ 201 ∷ 202 ∷ 203 ∷ 204 ∷ 205 ∷ 206 ∷ 207 ∷ 208 ∷ 209 ∷ 210 ∷ 211 ∷ 212 ∷ 213 ∷ 214 ∷ 215 ∷ 216 ∷ 217 ∷ 218 ∷ 219 ∷ 220 ∷ 221 ∷ 222 ∷ 223 ∷ 224 ∷ 225 ∷ 226 ∷ 227 ∷ 228 ∷ 229 ∷ 230 ∷ 231 ∷ 232 ∷ 233 ∷ 234 ∷ 235 ∷ 236 ∷ 237 ∷ 238 ∷ 239 ∷ 240 ∷ 241 ∷ 242 ∷ 243 ∷ 244 ∷ 245 ∷ 246 ∷ 247 ∷ 248 ∷ 249 ∷ 250 ∷ 251 ∷ 252 ∷ 253 ∷ 254 ∷ 255 ∷ 0 ∷ []) 1); outcome = Done (Refused TBADOPT); after = T_IDLE } ∷
    record { worker = 0; act = act.Begin (call.TOptMgmt (record { 0 = 64 }) 128 (0 ∷ []) 256); outcome = Done (Refused TBADOPT); after = T_IDLE } ∷
    record { worker = 0; act = act.Begin (call.TOptMgmt (record { 0 = 64 }) 128 (0 ∷ 0 ∷ 0 ∷ 16 ∷ 0 ∷ 0 ∷ 255 ∷ 255 ∷ 0 ∷ 0 ∷ 16 ∷ 1 ∷ 0 ∷ 0 ∷ 0 ∷ 0 ∷ 0 ∷ 0 ∷ 0 ∷ 16 ∷ 0 ∷ 0 ∷ 0 ∷ 6 ∷ 0 ∷ 0 ∷ 0 ∷ 1 ∷ 0 ∷ 0 ∷ 0 ∷ 0 ∷ []) 256); outcome = Done (Refused TBADOPT); after = T_IDLE } ∷
    record { worker = 0; act = act.Begin (call.TOptMgmt (record { 0 = 64 }) 128 (0 ∷ 0 ∷ 0 ∷ 16 ∷ 0 ∷ 0 ∷ 255 ∷ 255 ∷ 0 ∷ 0 ∷ 16 ∷ 1 ∷ 0 ∷ 0 ∷ 0 ∷ 0 ∷ []) 1); outcome = Done (Overflow (record { 0 = 0 })); after = T_IDLE } ∷
    record { worker = 0; act = act.Begin (call.SetMode (record { 0 = 64 }) false); outcome = Done Plain; after = T_IDLE } ∷
    record { worker = 0; act = act.Begin (call.TGetState (record { 0 = 64 })); outcome = Done (Stands T_IDLE); after = T_IDLE } ∷
    record { worker = 0; act = act.Begin (call.TSync (record { 0 = 3 })); outcome = Done (Stands T_IDLE); after = T_IDLE } ∷
    record { worker = 0; act = act.Begin (call.TGetInfo (record { 0 = 1 })); outcome = Done (Limits (record { addr = (At 64); options = (At 256); tsdu = (At 8192); etsdu = Invalid; connect = Invalid; discon = Invalid; servtype = T_CLTS; flags = 1 })); after = T_IDLE } ∷
    record { worker = 0; act = act.Begin (call.TUnbind (record { 0 = 1 })); outcome = Done Plain; after = T_UNBND } ∷
    record { worker = 0; act = act.Begin (call.TClose (record { 0 = 64 })); outcome = Done Plain; after = T_UNINIT } ∷
    []

the_history : robin (record { providers = providers; lines = lines }) ≡ entries
unfolding providers lines entries digits opening step plan is_option_list options_within begins_option
the_history = refl

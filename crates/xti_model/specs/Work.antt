-- How many bytes the calls of a script have in their arguments.
use Rattle.std.specs.Prelude.{ℕ, ◌+◌, List, length}
use Rattle.std.specs.List.{concat, sum_by}
use Rattle.xti_model.specs.declared.script.NamedCall.{NamedCall}
use Rattle.xti_model.specs.declared.script.NamedCall.TheVariants as named
use Rattle.xti_model.specs.declared.script.Line.{Line}

-- addresses, options and data
abbrev pub argument_bytes : NamedCall → ℕ
argument_bytes (named.TBind fd addr qlen amax) = length addr
argument_bytes (named.TConnect fd addr opt udata amax omax umax) = length addr + length opt + length udata
argument_bytes (named.TAccept fd resfd seq opt udata) = length opt + length udata
argument_bytes (named.TSnd fd bytes flags) = length bytes
argument_bytes (named.TSndV fd parts flags) = length (concat parts)
argument_bytes (named.TSndDis fd seq udata) = length udata
argument_bytes (named.TSndRelData fd udata) = length udata
argument_bytes (named.TSndUData fd addr opt bytes) = length addr + length opt + length bytes
argument_bytes (named.TSndVUData fd addr opt parts) = length addr + length opt + length (concat parts)
argument_bytes (named.TOptMgmt fd action opt omax) = length opt
argument_bytes other = 0

-- the bytes of all lines' arguments
abbrev pub script_bytes : List Line → ℕ
script_bytes lines = sum_by (λ line. argument_bytes line.call) lines

-- What a want of the library means among those of the definitions.
use Rattle.xti_model.specs.Wants as wants
use Rattle.xti_model.specs.Spot.{spot_bytes}
use Rattle.xti_wants.specs.declared.want.Want.{Want}
use Rattle.xti_wants.specs.declared.want.WantKind.{WantKind}
use Rattle.xti_wants.specs.declared.want.WantKind.TheVariants.{RcvConnect, Listen, Snd, Rcv, SndUData, RcvUData}

abbrev pub kind_of : WantKind → wants.WantKind
kind_of RcvConnect = wants.for_rcvconnect
kind_of Listen = wants.for_listen
kind_of Snd = wants.for_snd
kind_of Rcv = wants.for_rcv
kind_of SndUData = wants.for_sndudata
kind_of RcvUData = wants.for_rcvudata

abbrev pub meaning : Want → wants.Want
meaning w = record { kind = kind_of w.kind; fd = w.fd.0; left = w.left; flags = w.flags; to = spot_bytes w.to }

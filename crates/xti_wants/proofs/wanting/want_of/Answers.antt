use Rattle.std.proofs.Common.{rules, refl, ap, length}
use Rattle.std.specs.List.{concat}
use Rattle.xti_model.specs.declared.call.Call.{Call}
use Rattle.xti_model.specs.Wants.{want, want_to_send, for_rcvconnect, for_listen, for_rcv, for_sndudata, for_rcvudata, want_of}
use Rattle.xti_wants.proofs.Waiting.{made}
use Rattle.xti_wants.proofs.wanting.want_of.Goals as goal

pub returns-in-More : goal.returns-in-More
returns-in-More c = let i = c.in-TConnect in
    made c.args.call.now c.args.go (want for_rcvconnect i.fd.0) _ _ _ _ _ c.want.result c.want.ensures (λ k. want_of (i.is k) (c.in-More.is k)) refl refl (λ lt. refl) refl (search rules)

pub returns-in-TRcvConnect : goal.returns-in-TRcvConnect
returns-in-TRcvConnect c = let i = c.in-TRcvConnect in
    made c.args.call.now c.args.go (want for_rcvconnect i.fd.0) _ _ _ _ _ c.want-in-TRcvConnect.result c.want-in-TRcvConnect.ensures (ap (λ (z : Call). want_of z c.args.go) i.is) refl refl (λ lt. refl) refl (search rules)

pub returns-in-TListen : goal.returns-in-TListen
returns-in-TListen c = let i = c.in-TListen in
    made c.args.call.now c.args.go (want for_listen i.fd.0) _ _ _ _ _ c.want-in-TListen.result c.want-in-TListen.ensures (ap (λ (z : Call). want_of z c.args.go) i.is) refl refl (λ lt. refl) refl (search rules)

pub returns-in-TRcv : goal.returns-in-TRcv
returns-in-TRcv c = let i = c.in-TRcv in
    made c.args.call.now c.args.go (want for_rcv i.fd.0) _ _ _ _ _ c.want-in-TRcv.result c.want-in-TRcv.ensures (ap (λ (z : Call). want_of z c.args.go) i.is) refl refl (λ lt. refl) refl (search rules)

pub returns-in-TRcvV : goal.returns-in-TRcvV
returns-in-TRcvV c = let i = c.in-TRcvV in
    made c.args.call.now c.args.go (want for_rcv i.fd.0) _ _ _ _ _ c.want-in-TRcvV.result c.want-in-TRcvV.ensures (ap (λ (z : Call). want_of z c.args.go) i.is) refl refl (λ lt. refl) refl (search rules)

pub returns-in-TRcvUData : goal.returns-in-TRcvUData
returns-in-TRcvUData c = let i = c.in-TRcvUData in
    made c.args.call.now c.args.go (want for_rcvudata i.fd.0) _ _ _ _ _ c.want-in-TRcvUData.result c.want-in-TRcvUData.ensures (ap (λ (z : Call). want_of z c.args.go) i.is) refl refl (λ lt. refl) refl (search rules)

pub returns-in-TRcvVUData : goal.returns-in-TRcvVUData
returns-in-TRcvVUData c = let i = c.in-TRcvVUData in
    made c.args.call.now c.args.go (want for_rcvudata i.fd.0) _ _ _ _ _ c.want-in-TRcvVUData.result c.want-in-TRcvVUData.ensures (ap (λ (z : Call). want_of z c.args.go) i.is) refl refl (λ lt. refl) refl (search rules)

pub returns-in-TSnd : goal.returns-in-TSnd
returns-in-TSnd c = let i = c.in-TSnd in
    made c.args.call.now c.args.go (want_to_send i.fd.0 i.bytes i.flags c.args.go) _ _ _ _ _ c.want-in-TSnd.result c.want-in-TSnd.ensures (ap (λ (z : Call). want_of z c.args.go) i.is) refl refl (λ lt. search rules) refl (search rules)

pub returns-in-TSndV : goal.returns-in-TSndV
returns-in-TSndV c = let i = c.in-TSndV in
    made c.args.call.now c.args.go (want_to_send i.fd.0 (concat i.parts) i.flags c.args.go) _ _ _ _ _ c.want-in-TSndV.result c.want-in-TSndV.ensures (ap (λ (z : Call). want_of z c.args.go) i.is) refl refl (λ lt. search rules) refl (search rules)

pub returns-in-TSndUData : goal.returns-in-TSndUData
returns-in-TSndUData c = let i = c.in-TSndUData in
    made c.args.call.now c.args.go (record (want for_sndudata i.fd.0) { left = length i.bytes; to = i.addr }) _ _ _ _ _ c.want-in-TSndUData.result c.want-in-TSndUData.ensures (ap (λ (z : Call). want_of z c.args.go) i.is) refl refl (λ lt. search rules) refl (search rules)

pub returns-in-TSndVUData : goal.returns-in-TSndVUData
returns-in-TSndVUData c = let i = c.in-TSndVUData in
    made c.args.call.now c.args.go (record (want for_sndudata i.fd.0) { left = length (concat i.parts); to = i.addr }) _ _ _ _ _ c.want-in-TSndVUData.result c.want-in-TSndVUData.ensures (ap (λ (z : Call). want_of z c.args.go) i.is) refl refl (λ lt. search rules) refl (search rules)

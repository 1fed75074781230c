-- The numbers of an outcome, one by one.
use Rattle.std.proofs.Common.{◌≡◌, ℕ, ◌<◌, refl}
use Rattle.xti_base.specs.declared.limit.Limit.{Limit}
use Rattle.xti_base.specs.declared.limit.Limit.TheVariants.{At, Infinite, Invalid}
use Rattle.xti_base.specs.declared.limit.Info.{Info}
use Rattle.xti_model.specs.declared.entry.Outcome.{Outcome}
use Rattle.xti_model.specs.declared.entry.Outcome.TheVariants.{Done, Part}
use Rattle.xti_model.specs.declared.entry.Reply.TheVariants as reply
use Rattle.xti_laws.specs.Values.{IsLimit}
use Rattle.xti_laws_texts.specs.Texts.{AreNumbers}

-- each number that the outcome may have
pub record Each (o : Outcome) : Type 0 where
  pub part : (n : ℕ) → o ≡ Part n → n < 4294967296
  pub opened : (fd : _) → o ≡ Done (reply.Opened fd) → fd.0 < 4294967296
  pub bound : (addr : _) (qlen : ℕ) → o ≡ Done (reply.Bound addr qlen) → qlen < 4294967296
  pub listened : (seq : _) (addr opt udata : _) → o ≡ Done (reply.Listened seq addr opt udata) → seq.0 < 4294967296
  pub sent : (n : ℕ) → o ≡ Done (reply.Sent n) → n < 4294967296
  pub got : (bytes : _) (flags : ℕ) → o ≡ Done (reply.Got bytes flags) → flags < 4294967296
  pub reason : (reason : ℕ) (seq udata : _) → o ≡ Done (reply.Discon reason seq udata) → reason < 4294967296
  pub disconnected : (reason : ℕ) (seq udata : _) → o ≡ Done (reply.Discon reason seq udata) → seq.0 < 4294967296
  pub datagram : (addr opt bytes : _) (flags : ℕ) → o ≡ Done (reply.UData addr opt bytes flags) → flags < 4294967296
  pub code : (addr opt : _) (code : ℕ) → o ≡ Done (reply.UDErr addr opt code) → code < 4294967296
  pub addr : (info : Info) (n : ℕ) → o ≡ Done (reply.Limits info) → info.addr ≡ At n → n < 4294967296
  pub options : (info : Info) (n : ℕ) → o ≡ Done (reply.Limits info) → info.options ≡ At n → n < 4294967296
  pub tsdu : (info : Info) (n : ℕ) → o ≡ Done (reply.Limits info) → info.tsdu ≡ At n → n < 4294967296
  pub etsdu : (info : Info) (n : ℕ) → o ≡ Done (reply.Limits info) → info.etsdu ≡ At n → n < 4294967296
  pub connect : (info : Info) (n : ℕ) → o ≡ Done (reply.Limits info) → info.connect ≡ At n → n < 4294967296
  pub discon : (info : Info) (n : ℕ) → o ≡ Done (reply.Limits info) → info.discon ≡ At n → n < 4294967296
  pub flags : (info : Info) → o ≡ Done (reply.Limits info) → info.flags < 4294967296
  pub result : (result : ℕ) (opt : _) → o ≡ Done (reply.Options result opt) → result < 4294967296
  pub lost : (seq : _) → o ≡ Done (reply.Overflow seq) → seq.0 < 4294967296

is_limit : (l : Limit) → ((n : ℕ) → l ≡ At n → n < 4294967296) → IsLimit l
is_limit (At n) h = h n refl
is_limit Infinite h = tt
is_limit Invalid h = tt

pub are_numbers : (o : Outcome) → Each o → AreNumbers o
are_numbers (Part taken) h = h.part taken refl
are_numbers (Done reply.Plain) h = tt
are_numbers (Done (reply.Opened fd)) h = h.opened fd refl
are_numbers (Done (reply.Bound addr qlen)) h = h.bound addr qlen refl
are_numbers (Done (reply.Connected addr opt udata)) h = tt
are_numbers (Done (reply.Listened seq addr opt udata)) h = h.listened seq addr opt udata refl
are_numbers (Done (reply.Sent n)) h = h.sent n refl
are_numbers (Done (reply.Got bytes flags)) h = h.got bytes flags refl
are_numbers (Done (reply.Discon reason seq udata)) h = (h.reason reason seq udata refl, h.disconnected reason seq udata refl)
are_numbers (Done (reply.RelData udata)) h = tt
are_numbers (Done (reply.UData addr opt bytes flags)) h = h.datagram addr opt bytes flags refl
are_numbers (Done (reply.UDErr addr opt code)) h = h.code addr opt code refl
are_numbers (Done (reply.Seen event)) h = tt
are_numbers (Done (reply.Stands state)) h = tt
are_numbers (Done (reply.Limits info)) h = record {
  addr = is_limit info.addr (λ n. h.addr info n refl);
  options = is_limit info.options (λ n. h.options info n refl);
  tsdu = is_limit info.tsdu (λ n. h.tsdu info n refl);
  etsdu = is_limit info.etsdu (λ n. h.etsdu info n refl);
  connect = is_limit info.connect (λ n. h.connect info n refl);
  discon = is_limit info.discon (λ n. h.discon info n refl);
  flags = h.flags info refl;
}
are_numbers (Done (reply.Addresses local peer)) h = tt
are_numbers (Done (reply.Options result opt)) h = h.result result opt refl
are_numbers (Done (reply.Refused errno)) h = tt
are_numbers (Done (reply.Look event)) h = tt
are_numbers (Done (reply.Overflow seq)) h = h.lost seq refl

-- Frames that wait at an endpoint, as what they stand for.
use Rattle.std.specs.Prelude.{◌≡◌, ℕ, List, [], Option, option_copied, option_map, IfSome}
use Rattle.std.specs.Borrow.{Bor}
use Rattle.std.specs.List.{AllByRecursion}
use Rattle.tpi_grammar.specs.declared.kind.Kind.{Kind}
use Rattle.tpi_grammar.specs.declared.kind.Kind.TheVariants as kind
use Rattle.tpi_prim.specs.declared.primitive.Prim.{Prim}
use Rattle.tpi_prim.specs.declared.primitive.Prim.TheVariants as prim
use Rattle.tpi_prim.specs.Fields.{kind_in, primitive_in}
use Rattle.tpi_prim.specs.Primitive.{user_of}
use Rattle.xti_model.specs.Endpoint.{Indication, Disconnect, Confirmation, Datagram, DatagramError}
use Rattle.xti_queue.specs.Indications.{symbols_of}
use Rattle.xti_end.specs.declared.indications.Ind.{Ind}

-- what a lent frame, if there is one, stands for
abbrev pub seen_as : {A B : Type 0} → (A → B) → Option (Bor A) → Option B
seen_as f lent = option_map f (option_copied lent)

abbrev pub no_datagram : Datagram
no_datagram = record { source = []; options = []; bytes = [] }

abbrev pub no_error : DatagramError
no_error = record { destination = []; options = []; code = 0 }

abbrev pub no_disconnect : Disconnect
no_disconnect = record { reason = 0; number = 0; udata = [] }

abbrev pub no_confirmation : Confirmation
no_confirmation = record { address = []; options = []; udata = [] }

abbrev pub no_indication : Indication
no_indication = record { number = 0; caller = 0; address = []; options = []; udata = [] }

-- a T_UNITDATA_IND is a datagram
abbrev pub datagram_of : Prim → Datagram
datagram_of (prim.T_UNITDATA_IND src opt user) = record { source = src; options = opt; bytes = user }
datagram_of _ = no_datagram

-- a T_UDERROR_IND is a datagram's error
abbrev pub error_of : Prim → DatagramError
error_of (prim.T_UDERROR_IND dest opt error_type) = record { destination = dest; options = opt; code = error_type }
error_of _ = no_error

-- a T_CONN_IND is the request of its caller
abbrev pub request_of : ℕ → Prim → Indication
request_of caller (prim.T_CONN_IND src opt seq user) =
    record { number = seq; caller = caller; address = src; options = opt; udata = user }
request_of caller _ = no_indication

-- a T_CONN_CON is the answer to a request that was accepted
abbrev pub confirmation_of : Prim → Confirmation
confirmation_of (prim.T_CONN_CON res opt user) = record { address = res; options = opt; udata = user }
confirmation_of _ = no_confirmation

-- a T_DISCON_IND is a disconnect
abbrev pub disconnect_of : Prim → Disconnect
disconnect_of (prim.T_DISCON_IND reason seq user) = record { reason = reason; number = seq; udata = user }
disconnect_of _ = no_disconnect

abbrev pub datagram_in : List ℕ → Datagram
datagram_in f = datagram_of (primitive_in f)

abbrev pub error_in : List ℕ → DatagramError
error_in f = error_of (primitive_in f)

abbrev pub request_in : ℕ → List ℕ → Indication
request_in caller f = request_of caller (primitive_in f)

abbrev pub indication_of : Ind → Indication
indication_of i = request_in i.caller.0 i.frame

abbrev pub confirmation_in : List ℕ → Confirmation
confirmation_in f = confirmation_of (primitive_in f)

abbrev pub disconnect_in : List ℕ → Disconnect
disconnect_in f = disconnect_of (primitive_in f)

-- the user data of a T_ORDREL_IND
abbrev pub release_in : List ℕ → List ℕ
release_in f = user_of (primitive_in f)

-- the symbols of a T_DATA_IND or a T_EXDATA_IND: its bytes, and an end where MORE_flag is 0
abbrev pub symbols_in : List ℕ → List ℕ
symbols_in f = symbols_of (primitive_in f)

-- each frame is of the kind
abbrev pub AreOf : Kind → List (List ℕ) → Type 0
AreOf k = AllByRecursion (λ f. kind_in f ≡ k)

abbrev pub AreDatagrams : List (List ℕ) → Type 0
AreDatagrams = AreOf kind.T_UNITDATA_IND

abbrev pub AreErrors : List (List ℕ) → Type 0
AreErrors = AreOf kind.T_UDERROR_IND

abbrev pub AreDisconnects : List (List ℕ) → Type 0
AreDisconnects = AreOf kind.T_DISCON_IND

-- a request to connect is a T_CONN_IND
abbrev pub IsRequest : Ind → Type 0
IsRequest i = kind_in i.frame ≡ kind.T_CONN_IND

abbrev pub AreRequests : List Ind → Type 0
AreRequests = AllByRecursion IsRequest

-- the frame, if there is one, is of the kind
abbrev pub IsOf : Kind → Option (List ℕ) → Type 0
IsOf k o = IfSome o (λ f. kind_in f ≡ k)

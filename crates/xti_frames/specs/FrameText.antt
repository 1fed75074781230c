-- The lines in which frames are shown: the name of the primitive, its words in order, and the user data where it may
-- have any. A variable part is its bytes; its length and offset aren't shown. docs/PROFILE.md has the frames in words.
use Rattle.std.specs.Prelude.{◌≡◌, ℕ, Bool, true, false, List, ◌++◌, codes, map, Vec, if◌then◌else◌}
use Rattle.std.specs.declared.alloc.Global.{Global}
use Rattle.std.specs.List.{flat_map}
use Rattle.xti_words.specs.WrittenWords.{number_word, octets_word}
use Rattle.tpi_grammar.specs.Frames.{AreFilled, spellings}
use Rattle.tpi_prim.specs.Primitive.{filled}
use Rattle.tpi_prim.specs.declared.primitive.Prim.{Prim}
use Rattle.tpi_prim.specs.declared.primitive.Prim.TheVariants.{T_CONN_REQ, T_CONN_RES, T_DISCON_REQ, T_DATA_REQ, T_EXDATA_REQ, T_BIND_REQ, T_UNBIND_REQ, T_UNITDATA_REQ, T_ORDREL_REQ, T_CONN_IND, T_CONN_CON, T_DISCON_IND, T_DATA_IND, T_EXDATA_IND, T_BIND_ACK, T_ERROR_ACK, T_OK_ACK, T_UNITDATA_IND, T_UDERROR_IND, T_ORDREL_IND}

-- this text was written after what was there
abbrev pub Adds : List ℕ → Vec ℕ Global → Vec ℕ Global → Type 0
Adds text before now = now.items ≡ before.items ++ text

-- the words of a line, each after the text that separates it from the word before

unfoldable pub name_word : List ℕ → List ℕ
name_word name = name

unfoldable pub number_field : List ℕ → ℕ → List ℕ
number_field key n = number_word key n

-- 1 where more of the message follows, and else 0
unfoldable pub flag_field : List ℕ → Bool → List ℕ
flag_field key more = key ++ (if more then codes "1" else codes "0")

unfoldable pub part_field : List ℕ → List ℕ → List ℕ
part_field key part = octets_word key part

-- the user data, after the words
abbrev pub user_field : List ℕ → List ℕ
user_field user = part_field (codes " data=") user

-- a name, MORE_flag and the user data
abbrev pub flagged_text : List ℕ → Bool → List ℕ → List ℕ
flagged_text name more user = name_word name ++ flag_field (codes " MORE_flag=") more ++ user_field user

-- a name, an address after its key, and the options
abbrev pub parts_text : List ℕ → List ℕ → List ℕ → List ℕ → List ℕ
parts_text name key address opt = name_word name ++ part_field key address ++ part_field (codes " OPT=") opt

abbrev pub frame_text : Prim → List ℕ
frame_text (T_CONN_REQ dest opt user) = name_word (codes "T_CONN_REQ") ++ part_field (codes " DEST=") dest ++ part_field (codes " OPT=") opt ++ user_field user
frame_text (T_CONN_RES acceptor_id opt seq_number user) = name_word (codes "T_CONN_RES") ++ number_field (codes " ACCEPTOR_id=") acceptor_id ++ part_field (codes " OPT=") opt ++ number_field (codes " SEQ_number=") seq_number ++ user_field user
frame_text (T_DISCON_REQ seq_number user) = name_word (codes "T_DISCON_REQ") ++ number_field (codes " SEQ_number=") seq_number ++ user_field user
frame_text (T_DATA_REQ more user) = name_word (codes "T_DATA_REQ") ++ flag_field (codes " MORE_flag=") more ++ user_field user
frame_text (T_EXDATA_REQ more user) = name_word (codes "T_EXDATA_REQ") ++ flag_field (codes " MORE_flag=") more ++ user_field user
frame_text (T_BIND_REQ addr conind_number) = name_word (codes "T_BIND_REQ") ++ part_field (codes " ADDR=") addr ++ number_field (codes " CONIND_number=") conind_number
frame_text T_UNBIND_REQ = name_word (codes "T_UNBIND_REQ")
frame_text (T_UNITDATA_REQ dest opt user) = name_word (codes "T_UNITDATA_REQ") ++ part_field (codes " DEST=") dest ++ part_field (codes " OPT=") opt ++ user_field user
frame_text (T_ORDREL_REQ user) = name_word (codes "T_ORDREL_REQ") ++ user_field user
frame_text (T_CONN_IND src opt seq_number user) = name_word (codes "T_CONN_IND") ++ part_field (codes " SRC=") src ++ part_field (codes " OPT=") opt ++ number_field (codes " SEQ_number=") seq_number ++ user_field user
frame_text (T_CONN_CON res opt user) = name_word (codes "T_CONN_CON") ++ part_field (codes " RES=") res ++ part_field (codes " OPT=") opt ++ user_field user
frame_text (T_DISCON_IND reason seq_number user) = name_word (codes "T_DISCON_IND") ++ number_field (codes " DISCON_reason=") reason ++ number_field (codes " SEQ_number=") seq_number ++ user_field user
frame_text (T_DATA_IND more user) = name_word (codes "T_DATA_IND") ++ flag_field (codes " MORE_flag=") more ++ user_field user
frame_text (T_EXDATA_IND more user) = name_word (codes "T_EXDATA_IND") ++ flag_field (codes " MORE_flag=") more ++ user_field user
frame_text (T_BIND_ACK addr conind_number) = name_word (codes "T_BIND_ACK") ++ part_field (codes " ADDR=") addr ++ number_field (codes " CONIND_number=") conind_number
frame_text (T_ERROR_ACK error_prim tli_error unix_error) = name_word (codes "T_ERROR_ACK") ++ number_field (codes " ERROR_prim=") error_prim ++ number_field (codes " TLI_error=") tli_error ++ number_field (codes " UNIX_error=") unix_error
frame_text (T_OK_ACK correct_prim) = name_word (codes "T_OK_ACK") ++ number_field (codes " CORRECT_prim=") correct_prim
frame_text (T_UNITDATA_IND src opt user) = name_word (codes "T_UNITDATA_IND") ++ part_field (codes " SRC=") src ++ part_field (codes " OPT=") opt ++ user_field user
frame_text (T_UDERROR_IND dest opt error_type) = name_word (codes "T_UDERROR_IND") ++ part_field (codes " DEST=") dest ++ part_field (codes " OPT=") opt ++ number_field (codes " ERROR_type=") error_type
frame_text (T_ORDREL_IND user) = name_word (codes "T_ORDREL_IND") ++ user_field user

abbrev pub frame_line : Prim → List ℕ
frame_line p = frame_text p ++ codes "\n"

abbrev pub frames_text : List Prim → List ℕ
frames_text prims = flat_map frame_line prims

-- the input is the encodings of primitives, one after the other, and the text shows them in their order
pub record IsShown (input text : List ℕ) : Type 0 where
  pub prims : List Prim
  pub are_frames : AreFilled (map filled prims)
  pub spelled : input ≡ spellings (map filled prims)
  pub shown : text ≡ frames_text prims

-- families of primitives: of a binding and acknowledgements, of a connection from its request to its end, of data
abbrev pub is_of_binding : Prim → Bool
is_of_binding (T_BIND_REQ addr conind_number) = true
is_of_binding T_UNBIND_REQ = true
is_of_binding (T_BIND_ACK addr conind_number) = true
is_of_binding (T_ERROR_ACK error_prim tli_error unix_error) = true
is_of_binding (T_OK_ACK correct_prim) = true
is_of_binding other = false

abbrev pub is_of_connection : Prim → Bool
is_of_connection (T_CONN_REQ dest opt user) = true
is_of_connection (T_CONN_RES acceptor_id opt seq_number user) = true
is_of_connection (T_DISCON_REQ seq_number user) = true
is_of_connection (T_ORDREL_REQ user) = true
is_of_connection (T_CONN_IND src opt seq_number user) = true
is_of_connection (T_CONN_CON res opt user) = true
is_of_connection (T_DISCON_IND reason seq_number user) = true
is_of_connection (T_ORDREL_IND user) = true
is_of_connection other = false

abbrev pub is_of_data : Prim → Bool
is_of_data (T_DATA_REQ more user) = true
is_of_data (T_EXDATA_REQ more user) = true
is_of_data (T_UNITDATA_REQ dest opt user) = true
is_of_data (T_DATA_IND more user) = true
is_of_data (T_EXDATA_IND more user) = true
is_of_data (T_UNITDATA_IND src opt user) = true
is_of_data (T_UDERROR_IND dest opt error_type) = true
is_of_data other = false

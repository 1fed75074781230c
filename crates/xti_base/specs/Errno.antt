-- The values of t_errno, by number and by name (XNS, <xti.h>).
use Rattle.std.specs.Prelude.{ℕ, ◌≤◌, List, codes}
use Rattle.xti_base.specs.declared.errno.Errno.{Errno}
use Rattle.xti_base.specs.declared.errno.Errno.TheVariants.{TBADADDR, TBADOPT, TACCES, TBADF, TNOADDR, TOUTSTATE, TBADSEQ, TSYSERR, TLOOK, TBADDATA, TBUFOVFLW, TFLOW, TNODATA, TNODIS, TNOUDERR, TBADFLAG, TNOREL, TNOTSUPPORT, TSTATECHNG, TNOSTRUCTYPE, TBADNAME, TBADQLEN, TADDRBUSY, TINDOUT, TPROVMISMATCH, TRESQLEN, TRESADDR, TQFULL, TPROTO}

abbrev pub errno_number : Errno → ℕ
errno_number TBADADDR = 1
errno_number TBADOPT = 2
errno_number TACCES = 3
errno_number TBADF = 4
errno_number TNOADDR = 5
errno_number TOUTSTATE = 6
errno_number TBADSEQ = 7
errno_number TSYSERR = 8
errno_number TLOOK = 9
errno_number TBADDATA = 10
errno_number TBUFOVFLW = 11
errno_number TFLOW = 12
errno_number TNODATA = 13
errno_number TNODIS = 14
errno_number TNOUDERR = 15
errno_number TBADFLAG = 16
errno_number TNOREL = 17
errno_number TNOTSUPPORT = 18
errno_number TSTATECHNG = 19
errno_number TNOSTRUCTYPE = 20
errno_number TBADNAME = 21
errno_number TBADQLEN = 22
errno_number TADDRBUSY = 23
errno_number TINDOUT = 24
errno_number TPROVMISMATCH = 25
errno_number TRESQLEN = 26
errno_number TRESADDR = 27
errno_number TQFULL = 28
errno_number TPROTO = 29

abbrev pub errno_name : Errno → List ℕ
errno_name TBADADDR = codes "TBADADDR"
errno_name TBADOPT = codes "TBADOPT"
errno_name TACCES = codes "TACCES"
errno_name TBADF = codes "TBADF"
errno_name TNOADDR = codes "TNOADDR"
errno_name TOUTSTATE = codes "TOUTSTATE"
errno_name TBADSEQ = codes "TBADSEQ"
errno_name TSYSERR = codes "TSYSERR"
errno_name TLOOK = codes "TLOOK"
errno_name TBADDATA = codes "TBADDATA"
errno_name TBUFOVFLW = codes "TBUFOVFLW"
errno_name TFLOW = codes "TFLOW"
errno_name TNODATA = codes "TNODATA"
errno_name TNODIS = codes "TNODIS"
errno_name TNOUDERR = codes "TNOUDERR"
errno_name TBADFLAG = codes "TBADFLAG"
errno_name TNOREL = codes "TNOREL"
errno_name TNOTSUPPORT = codes "TNOTSUPPORT"
errno_name TSTATECHNG = codes "TSTATECHNG"
errno_name TNOSTRUCTYPE = codes "TNOSTRUCTYPE"
errno_name TBADNAME = codes "TBADNAME"
errno_name TBADQLEN = codes "TBADQLEN"
errno_name TADDRBUSY = codes "TADDRBUSY"
errno_name TINDOUT = codes "TINDOUT"
errno_name TPROVMISMATCH = codes "TPROVMISMATCH"
errno_name TRESQLEN = codes "TRESQLEN"
errno_name TRESADDR = codes "TRESADDR"
errno_name TQFULL = codes "TQFULL"
errno_name TPROTO = codes "TPROTO"

abbrev pub IsErrnoNumber : ℕ → Type 0
IsErrnoNumber n = (1 ≤ n) × (n ≤ 29)

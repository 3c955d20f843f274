-- The features that are served, and the description of the registers: their names, bits and types, in the order in which they
-- are told (GDB's manual, appendix G).
use Rattle.std.specs.Prelude.{ℕ, List, ◌++◌, codes, decimal}

unfoldable pub features_text : List ℕ
features_text =
    codes "PacketSize=1000;qXfer:features:read+;ReverseStep+;" ++ codes "ReverseContinue+;swbreak+;hwbreak+"

-- an attribute of an element
unfoldable pub attribute : List ℕ → List ℕ → List ℕ
attribute name value = codes " " ++ (name ++ (codes "='" ++ (value ++ codes "'")))

-- a flag with its bit, and a register with its bits and type
unfoldable pub field_text : List ℕ → ℕ → List ℕ
field_text name bit =
    codes "<field" ++ (attribute (codes "name") name ++ (attribute (codes "start") (decimal bit)
    ++ (attribute (codes "end") (decimal bit) ++ codes "/>")))

unfoldable pub register_element : ℕ → List ℕ → List ℕ → List ℕ
register_element bits kind name =
    codes "<reg" ++ (attribute (codes "name") name ++ (attribute (codes "bitsize") (decimal bits)
    ++ (attribute (codes "type") kind ++ codes "/>")))

-- two and four registers of one size and type, by name
unfoldable pub two_registers : ℕ → List ℕ → List ℕ → List ℕ → List ℕ
two_registers bits kind a b = register_element bits kind a ++ register_element bits kind b

unfoldable pub four_registers : ℕ → List ℕ → List ℕ → List ℕ → List ℕ → List ℕ → List ℕ
four_registers bits kind a b c d = two_registers bits kind a b ++ two_registers bits kind c d

-- the flags of EFLAGS
unfoldable pub status_flags : List ℕ
status_flags =
    field_text (codes "CF") 0 ++ (field_text (codes "PF") 2 ++ (field_text (codes "AF") 4 ++ (field_text (codes "ZF") 6
    ++ field_text (codes "SF") 7)))

unfoldable pub middle_flags : List ℕ
middle_flags =
    field_text (codes "TF") 8 ++ (field_text (codes "IF") 9 ++ (field_text (codes "DF") 10 ++ field_text (codes "OF") 11))

unfoldable pub high_flags : List ℕ
high_flags =
    field_text (codes "NT") 14 ++ (field_text (codes "RF") 16 ++ (field_text (codes "VM") 17 ++ field_text (codes "AC") 18))

unfoldable pub flags_head : List ℕ
flags_head = codes "<flags id='i386_eflags' size='4'>"

unfoldable pub flags_text : List ℕ
flags_text =
    flags_head ++ (status_flags ++ (middle_flags ++ (high_flags ++ codes "</flags>")))

-- the registers of GDB's feature for this processor: the general ones, and where it stands
unfoldable pub general_registers : List ℕ
general_registers =
    four_registers 64 (codes "int64") (codes "rax") (codes "rbx") (codes "rcx") (codes "rdx")
    ++ (two_registers 64 (codes "int64") (codes "rsi") (codes "rdi")
    ++ (two_registers 64 (codes "data_ptr") (codes "rbp") (codes "rsp")
    ++ (four_registers 64 (codes "int64") (codes "r8") (codes "r9") (codes "r10") (codes "r11")
    ++ four_registers 64 (codes "int64") (codes "r12") (codes "r13") (codes "r14") (codes "r15"))))

unfoldable pub flags_register : List ℕ
flags_register = register_element 32 (codes "i386_eflags") (codes "eflags")

unfoldable pub place_registers : List ℕ
place_registers =
    register_element 64 (codes "code_ptr") (codes "rip") ++ (flags_register
    ++ (four_registers 32 (codes "int32") (codes "cs") (codes "ss") (codes "ds") (codes "es")
    ++ two_registers 32 (codes "int32") (codes "fs") (codes "gs")))

-- the floating-point unit's
unfoldable pub unit_registers : List ℕ
unit_registers =
    four_registers 80 (codes "i387_ext") (codes "st0") (codes "st1") (codes "st2") (codes "st3")
    ++ (four_registers 80 (codes "i387_ext") (codes "st4") (codes "st5") (codes "st6") (codes "st7")
    ++ (four_registers 32 (codes "int") (codes "fctrl") (codes "fstat") (codes "ftag") (codes "fiseg")
    ++ four_registers 32 (codes "int") (codes "fioff") (codes "foseg") (codes "fooff") (codes "fop")))

-- and what this machine has beside them
unfoldable pub system_registers : List ℕ
system_registers =
    four_registers 64 (codes "int64") (codes "cr0") (codes "cr2") (codes "cr3") (codes "cr4")
    ++ (register_element 64 (codes "int64") (codes "cpl")
    ++ two_registers 64 (codes "int64") (codes "turn") (codes "step"))

unfoldable pub core_head : List ℕ
core_head = codes "<feature name='org.gnu.gdb.i386.core'>"

unfoldable pub core_feature : List ℕ
core_feature =
    core_head ++ (flags_text ++ (general_registers ++ (place_registers
    ++ (unit_registers ++ codes "</feature>"))))

unfoldable pub system_feature : List ℕ
system_feature = codes "<feature name='org.nkrun.system'>" ++ (system_registers ++ codes "</feature>")

unfoldable pub target_head : List ℕ
target_head =
    codes "<?xml version='1.0'?><!DOCTYPE target SYSTEM 'gdb-target.dtd'>"
    ++ codes "<target version='1.0'><architecture>i386:x86-64</architecture>"

unfoldable pub description_text : List ℕ
description_text = target_head ++ (core_feature ++ (system_feature ++ codes "</target>"))

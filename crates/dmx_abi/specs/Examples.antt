-- A request written by hand from linux/dvb/dmx.h; the sessions of examples/rows have others, as they are read.
use Rattle.std.specs.Prelude.{◌≡◌, [], ◌∷◌, ◌++◌, replicate}
use Rattle.dmx_abi.specs.Written.{argument_of, number_of}
use Rattle.dmx_abi.specs.declared.request.Request.{Request}
use Rattle.dmx_abi.specs.declared.request.Request.TheVariants as request

-- a section filter of PID 17 for table_id 0x42, with 5000 milliseconds and the flag 1 for the CRC
abbrev pub a_section_filter : Request
a_section_filter =
    request.SetFilter 17 (0x42 ∷ replicate 15 0) (0xff ∷ replicate 15 0) (replicate 16 0) 5000 1

abbrev pub SectionIsWritten : Type 0
SectionIsWritten =
    (number_of a_section_filter ≡ 0x403c6f2b)
    × (argument_of a_section_filter ≡ 0x11 ∷ 0x00 ∷ (0x42 ∷ replicate 15 0 ++ (0xff ∷ replicate 15 0 ++ (replicate 16 0
    ++ (0 ∷ 0 ∷ 0x88 ∷ 0x13 ∷ 0 ∷ 0 ∷ 1 ∷ 0 ∷ 0 ∷ 0 ∷ [])))))

-- Lines read and written, as one table: what the definitions work out, and what request [1] says.
use Rattle.std.specs.Prelude.{ℕ, List, [], ◌∷◌, map, ℤ, pos}
use Rattle.rules.specs.Examples.{setup}
use Rattle.lines.specs.Reader.{read_setup, read_refusal, or_zeros}
use Rattle.lines.specs.Writer.{setup_line, write_refusal}

-- the number, SP, NP, FP and SN
abbrev pub read : List ℕ → List ℤ
read t = let s = or_zeros (read_setup t) in map pos (read_refusal t ∷ s.sp ∷ s.np ∷ s.fp ∷ s.sn ∷ [])

unfoldable pub line_table : List (List ℤ × List ℤ)
line_table =
    -- `WFSU SP,4,NP,0,FP,10,SN,0`
    (read (87 ∷ 70 ∷ 83 ∷ 85 ∷ 32 ∷ 83 ∷ 80 ∷ 44 ∷ 52 ∷ 44 ∷ 78 ∷ 80 ∷ 44 ∷ 48 ∷ 44 ∷ 70 ∷ 80 ∷ 44 ∷ 49 ∷ 48 ∷ 44 ∷ 83 ∷ 78 ∷ 44 ∷ 48 ∷ []), map pos (0 ∷ 4 ∷ 0 ∷ 10 ∷ 0 ∷ []))
    -- `WAVEFORM_SETUP SN,2`
    ∷ (read (87 ∷ 65 ∷ 86 ∷ 69 ∷ 70 ∷ 79 ∷ 82 ∷ 77 ∷ 95 ∷ 83 ∷ 69 ∷ 84 ∷ 85 ∷ 80 ∷ 32 ∷ 83 ∷ 78 ∷ 44 ∷ 50 ∷ []), map pos (0 ∷ 0 ∷ 0 ∷ 0 ∷ 2 ∷ []))
    -- `WFSU FP,0000000007,SP,4294967295`
    ∷ (read (87 ∷ 70 ∷ 83 ∷ 85 ∷ 32 ∷ 70 ∷ 80 ∷ 44 ∷ 48 ∷ 48 ∷ 48 ∷ 48 ∷ 48 ∷ 48 ∷ 48 ∷ 48 ∷ 48 ∷ 55 ∷ 44 ∷ 83 ∷ 80 ∷ 44 ∷ 52 ∷ 50 ∷ 57 ∷ 52 ∷ 57 ∷ 54 ∷ 55 ∷ 50 ∷ 57 ∷ 53 ∷ []), map pos (0 ∷ 4294967295 ∷ 0 ∷ 7 ∷ 0 ∷ []))
    -- `WFSU SN,0`
    ∷ (read (87 ∷ 70 ∷ 83 ∷ 85 ∷ 32 ∷ 83 ∷ 78 ∷ 44 ∷ 48 ∷ []), map pos (0 ∷ 0 ∷ 0 ∷ 0 ∷ 0 ∷ []))
    -- `WAVEFORM_SETUP SN,1,FP,2,NP,3,SP,4`
    ∷ (read (87 ∷ 65 ∷ 86 ∷ 69 ∷ 70 ∷ 79 ∷ 82 ∷ 77 ∷ 95 ∷ 83 ∷ 69 ∷ 84 ∷ 85 ∷ 80 ∷ 32 ∷ 83 ∷ 78 ∷ 44 ∷ 49 ∷ 44 ∷ 70 ∷ 80 ∷ 44 ∷ 50 ∷ 44 ∷ 78 ∷ 80 ∷ 44 ∷ 51 ∷ 44 ∷ 83 ∷ 80 ∷ 44 ∷ 52 ∷ []), map pos (0 ∷ 4 ∷ 3 ∷ 2 ∷ 1 ∷ []))
    -- ``
    ∷ (read ([]), map pos (15 ∷ 0 ∷ 0 ∷ 0 ∷ 0 ∷ []))
    -- `WFSU`
    ∷ (read (87 ∷ 70 ∷ 83 ∷ 85 ∷ []), map pos (15 ∷ 0 ∷ 0 ∷ 0 ∷ 0 ∷ []))
    -- `WFSU `
    ∷ (read (87 ∷ 70 ∷ 83 ∷ 85 ∷ 32 ∷ []), map pos (15 ∷ 0 ∷ 0 ∷ 0 ∷ 0 ∷ []))
    -- `wfsu SP,4`
    ∷ (read (119 ∷ 102 ∷ 115 ∷ 117 ∷ 32 ∷ 83 ∷ 80 ∷ 44 ∷ 52 ∷ []), map pos (15 ∷ 0 ∷ 0 ∷ 0 ∷ 0 ∷ []))
    -- ` WFSU SP,4`
    ∷ (read (32 ∷ 87 ∷ 70 ∷ 83 ∷ 85 ∷ 32 ∷ 83 ∷ 80 ∷ 44 ∷ 52 ∷ []), map pos (15 ∷ 0 ∷ 0 ∷ 0 ∷ 0 ∷ []))
    -- `WFSU  SP,4`
    ∷ (read (87 ∷ 70 ∷ 83 ∷ 85 ∷ 32 ∷ 32 ∷ 83 ∷ 80 ∷ 44 ∷ 52 ∷ []), map pos (15 ∷ 0 ∷ 0 ∷ 0 ∷ 0 ∷ []))
    -- `WFSU SP, 4`
    ∷ (read (87 ∷ 70 ∷ 83 ∷ 85 ∷ 32 ∷ 83 ∷ 80 ∷ 44 ∷ 32 ∷ 52 ∷ []), map pos (15 ∷ 0 ∷ 0 ∷ 0 ∷ 0 ∷ []))
    -- `WFSU SP,4 `
    ∷ (read (87 ∷ 70 ∷ 83 ∷ 85 ∷ 32 ∷ 83 ∷ 80 ∷ 44 ∷ 52 ∷ 32 ∷ []), map pos (15 ∷ 0 ∷ 0 ∷ 0 ∷ 0 ∷ []))
    -- `WFSU SP,4\n`
    ∷ (read (87 ∷ 70 ∷ 83 ∷ 85 ∷ 32 ∷ 83 ∷ 80 ∷ 44 ∷ 52 ∷ 10 ∷ []), map pos (15 ∷ 0 ∷ 0 ∷ 0 ∷ 0 ∷ []))
    -- `WFSU SP,4,`
    ∷ (read (87 ∷ 70 ∷ 83 ∷ 85 ∷ 32 ∷ 83 ∷ 80 ∷ 44 ∷ 52 ∷ 44 ∷ []), map pos (15 ∷ 0 ∷ 0 ∷ 0 ∷ 0 ∷ []))
    -- `WFSU SP,`
    ∷ (read (87 ∷ 70 ∷ 83 ∷ 85 ∷ 32 ∷ 83 ∷ 80 ∷ 44 ∷ []), map pos (15 ∷ 0 ∷ 0 ∷ 0 ∷ 0 ∷ []))
    -- `WFSU ,4`
    ∷ (read (87 ∷ 70 ∷ 83 ∷ 85 ∷ 32 ∷ 44 ∷ 52 ∷ []), map pos (15 ∷ 0 ∷ 0 ∷ 0 ∷ 0 ∷ []))
    -- `WFSU SP4`
    ∷ (read (87 ∷ 70 ∷ 83 ∷ 85 ∷ 32 ∷ 83 ∷ 80 ∷ 52 ∷ []), map pos (15 ∷ 0 ∷ 0 ∷ 0 ∷ 0 ∷ []))
    -- `WFSU SP,4,SP,4`
    ∷ (read (87 ∷ 70 ∷ 83 ∷ 85 ∷ 32 ∷ 83 ∷ 80 ∷ 44 ∷ 52 ∷ 44 ∷ 83 ∷ 80 ∷ 44 ∷ 52 ∷ []), map pos (15 ∷ 0 ∷ 0 ∷ 0 ∷ 0 ∷ []))
    -- `WFSU SP,4294967296`
    ∷ (read (87 ∷ 70 ∷ 83 ∷ 85 ∷ 32 ∷ 83 ∷ 80 ∷ 44 ∷ 52 ∷ 50 ∷ 57 ∷ 52 ∷ 57 ∷ 54 ∷ 55 ∷ 50 ∷ 57 ∷ 54 ∷ []), map pos (15 ∷ 0 ∷ 0 ∷ 0 ∷ 0 ∷ []))
    -- `WFSU SP,00000000001`
    ∷ (read (87 ∷ 70 ∷ 83 ∷ 85 ∷ 32 ∷ 83 ∷ 80 ∷ 44 ∷ 48 ∷ 48 ∷ 48 ∷ 48 ∷ 48 ∷ 48 ∷ 48 ∷ 48 ∷ 48 ∷ 48 ∷ 49 ∷ []), map pos (15 ∷ 0 ∷ 0 ∷ 0 ∷ 0 ∷ []))
    -- `WFSU SP,-1`
    ∷ (read (87 ∷ 70 ∷ 83 ∷ 85 ∷ 32 ∷ 83 ∷ 80 ∷ 44 ∷ 45 ∷ 49 ∷ []), map pos (15 ∷ 0 ∷ 0 ∷ 0 ∷ 0 ∷ []))
    -- `WFSU XP,1`
    ∷ (read (87 ∷ 70 ∷ 83 ∷ 85 ∷ 32 ∷ 88 ∷ 80 ∷ 44 ∷ 49 ∷ []), map pos (15 ∷ 0 ∷ 0 ∷ 0 ∷ 0 ∷ []))
    -- `WFSU sp,1`
    ∷ (read (87 ∷ 70 ∷ 83 ∷ 85 ∷ 32 ∷ 115 ∷ 112 ∷ 44 ∷ 49 ∷ []), map pos (15 ∷ 0 ∷ 0 ∷ 0 ∷ 0 ∷ []))
    -- `WAVEFORM_SETUPSP,1`
    ∷ (read (87 ∷ 65 ∷ 86 ∷ 69 ∷ 70 ∷ 79 ∷ 82 ∷ 77 ∷ 95 ∷ 83 ∷ 69 ∷ 84 ∷ 85 ∷ 80 ∷ 83 ∷ 80 ∷ 44 ∷ 49 ∷ []), map pos (15 ∷ 0 ∷ 0 ∷ 0 ∷ 0 ∷ []))
    -- `WFSU SP,1,NP,1,FP,1,SN,1,SP,1`
    ∷ (read (87 ∷ 70 ∷ 83 ∷ 85 ∷ 32 ∷ 83 ∷ 80 ∷ 44 ∷ 49 ∷ 44 ∷ 78 ∷ 80 ∷ 44 ∷ 49 ∷ 44 ∷ 70 ∷ 80 ∷ 44 ∷ 49 ∷ 44 ∷ 83 ∷ 78 ∷ 44 ∷ 49 ∷ 44 ∷ 83 ∷ 80 ∷ 44 ∷ 49 ∷ []), map pos (15 ∷ 0 ∷ 0 ∷ 0 ∷ 0 ∷ []))
    -- written: `WFSU SP,4,NP,0,FP,10,SN,0`, and into a buffer of its length and one that is shorter
    ∷ (map pos (setup_line (setup 4 0 10 0)), map pos (87 ∷ 70 ∷ 83 ∷ 85 ∷ 32 ∷ 83 ∷ 80 ∷ 44 ∷ 52 ∷ 44 ∷ 78 ∷ 80 ∷ 44 ∷ 48 ∷ 44 ∷ 70 ∷ 80 ∷ 44 ∷ 49 ∷ 48 ∷ 44 ∷ 83 ∷ 78 ∷ 44 ∷ 48 ∷ []))
    ∷ (map pos (write_refusal (setup 4 0 10 0) 25 ∷ write_refusal (setup 4 0 10 0) 24 ∷ []), map pos (0 ∷ 15 ∷ []))
    -- written: `WFSU SP,100,NP,9,FP,10,SN,99`, and into a buffer of its length and one that is shorter
    ∷ (map pos (setup_line (setup 100 9 10 99)), map pos (87 ∷ 70 ∷ 83 ∷ 85 ∷ 32 ∷ 83 ∷ 80 ∷ 44 ∷ 49 ∷ 48 ∷ 48 ∷ 44 ∷ 78 ∷ 80 ∷ 44 ∷ 57 ∷ 44 ∷ 70 ∷ 80 ∷ 44 ∷ 49 ∷ 48 ∷ 44 ∷ 83 ∷ 78 ∷ 44 ∷ 57 ∷ 57 ∷ []))
    ∷ (map pos (write_refusal (setup 100 9 10 99) 28 ∷ write_refusal (setup 100 9 10 99) 27 ∷ []), map pos (0 ∷ 15 ∷ []))
    ∷ []

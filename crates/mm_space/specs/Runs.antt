-- Runs of bytes: what lies from an address on, one byte behind another, and what is put so into a page of an area.
use Rattle.std.specs.Prelude.{ℕ, zero, suc, ◌+◌, List, [], ◌∷◌}
use Rattle.rv_table.specs.Bytes.{Byte, behind, value_in}
use Rattle.mm_space.specs.Handed.{AreaState}
use Rattle.mm_space.specs.Puts.{put_in_area}

-- the bytes at so many addresses from one on, and 0 for each that may not be accessed
-- write(2): what a call takes from its buffer; RISC-V Unprivileged ISA 20191213, 1.4: addresses go round at 2^64
unfoldable pub bytes_from : (ℕ → Byte) → (at count : ℕ) → List ℕ
bytes_from byte at zero = []
bytes_from byte at (suc n) = value_in (byte at) ∷ bytes_from byte (behind at) n

-- a shared area in which a task has put bytes from an offset of a page on, one after another
-- read(2): what a call puts into its buffer; mmap(2), MAP_SHARED
unfoldable pub put_run_in_area : (task number offset : ℕ) → List ℕ → AreaState → AreaState
put_run_in_area task number offset [] area = area
put_run_in_area task number offset (b ∷ bs) area =
    put_run_in_area task number (offset + 1) bs (put_in_area task number offset b area)

-- The rights of pages that an image's segments meet.
use Rattle.std.specs.Prelude.{◌||◌}
use Rattle.elf_image.specs.declared.image.SegmentRights.{SegmentRights as ImageRights}
use Rattle.mm_areas.specs.declared.rights.Rights.{Rights}
use Rattle.mm_areas.specs.Rights.{rights_with}

-- an image's rights as those of a page: each that the image has
-- ELF-64 Object File Format, p_flags; mmap(2), PROT_READ, PROT_WRITE and PROT_EXEC
abbrev pub page_rights : ImageRights → Rights
page_rights rights = rights_with rights.read rights.write rights.execute

-- what two segments that meet a page want of it
-- ELF-64 Object File Format, Program Loading
abbrev pub joined : ImageRights → ImageRights → ImageRights
joined first second =
    record {
      read = first.read || second.read;
      write = first.write || second.write;
      execute = first.execute || second.execute;
    }

-- How the records of a program's files are written.
use Rattle.std.specs.Prelude.{Bool}
use Rattle.river_road.specs.declared.layout.Layout.{Layout}

-- the records of a language in which a record may have further fields, or may not, of files with a header or without
abbrev pub layout_of : Bool → Bool → Layout
layout_of more header = record { header = header; more = more }

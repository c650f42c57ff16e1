-- Two ends that looked.
use Rattle.std.specs.Prelude.{◌≡◌, List, slice_set, slice_index_or}
use Rattle.fire_tasks.specs.Inlet as inlet
use Rattle.fire_tasks.specs.Outlet as outlet
use Rattle.fire_open.specs.declared.settling.Link.{Link}
use Rattle.fire_tasks.specs.declared.task.Task.{Task}
pub use Rattle.fire_tasks.specs.Tasks.{with_in, with_out}
use Rattle.fire_tasks.specs.Ports.{IsSettled, in_end, out_end, received_of, sent_of}

-- the ends of a link looked, and nothing else changed
pub record Met (ts ts' : List Task) (l : Link) : Type 0 where
  pub writer : Task
  pub reader : Task
  pub out : outlet.Outlet
  pub in_ : inlet.Inlet
  pub writer_is : (d : Task) → slice_index_or ts l.writer d ≡ writer
  pub reader_is : (d : Task) → slice_index_or ts l.reader d ≡ reader
  pub settled : IsSettled out in_
  -- they are the same ends, and the same was sent and received
  pub same_out : (d : outlet.Outlet)
      → (out_end out ≡ out_end (slice_index_or writer.outs l.out d)) × (sent_of out ≡ sent_of (slice_index_or writer.outs l.out d))
  pub same_in : (d : inlet.Inlet)
      → (in_end in_ ≡ in_end (slice_index_or reader.ins l.port d)) × (received_of in_ ≡ received_of (slice_index_or reader.ins l.port d))
  pub after : ts' ≡ slice_set (slice_set ts l.writer (with_out writer l.out out)) l.reader (with_in reader l.port in_)

pub mod Lawfuls

pub mod Class
